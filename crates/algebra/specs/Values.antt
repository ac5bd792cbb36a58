-- What the nodes of a plan are worth on a document: each by the nodes that it reads, which stand before it.
use Rattle.std.specs.Prelude.{ℕ, List, [], slice_index_or}
use Rattle.span_token.specs.Documents.{Doc}
use Rattle.scalar_ops.specs.Tables.{Lists}
use Rattle.aql_typed.specs.Meaning.{Rows}
use Rattle.algebra.specs.declared.node.Node.{Node}
use Rattle.algebra.specs.Operators.{op}
use Rattle.algebra.specs.Folds.{had, all_from}

module _ (lists : Lists) (doc : Doc) where
  -- the rows of all nodes, by their numbers
  abbrev pub all_values : List Node → List Rows
  all_values nodes = all_from [] (op lists doc) [] nodes

  -- the rows of node n
  abbrev pub val : List Node → ℕ → Rows
  val nodes n = slice_index_or (all_values nodes) n []

  -- the rows of a node that is put after others
  abbrev pub value_after : List Node → Node → Rows
  value_after nodes node = had [] (op lists doc) (all_values nodes) node
