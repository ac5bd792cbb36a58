-- What a plan keeps of a typed program: its tables, and each output with its names and its meaning. Its nodes have the
-- forms that lowering makes, and there are about as many of them as the program has queries and sources.
use Rattle.std.specs.Prelude.{ℕ, ◌≡◌, ◌+◌, ◌*◌, ◌≤◌, false, List, All, length, map}
use Rattle.std.specs.List.{AllZip, sum_by}
use Rattle.aql_base.specs.Bags.{SameBag}
use Rattle.span_token.specs.Documents.{Doc as Document}
use Rattle.scalar_ops.specs.Tables.{Lists}
use Rattle.aql_typed.specs.declared.tree.Output.{Output}
use Rattle.aql_typed.specs.declared.tree.TypedView.{TypedView}
use Rattle.aql_typed.specs.Meaning.{output_rows}
use Rattle.aql_typed.specs.Programs.{names_of}
use Rattle.aql_typed.specs.Trees.{Query, select, extract, union, minus, Queries, no_queries, more_queries, Source, document, view, nested, Sources, no_sources, more_sources}
use Rattle.aql_typed.specs.Views.{body_of}
use Rattle.algebra.specs.declared.node.Node.{Node}
use Rattle.algebra.specs.declared.node.Node.TheVariants.{Doc, Regex, TokenRegex, Dict, DictPart, Blocks, Select, Project, Cross, SpanJoin, Restricted, Union, Minus, Consolidate, Group, OrderLimit}
use Rattle.algebra.specs.declared.output.PlanOut.{PlanOut}
use Rattle.algebra.specs.Plans.{Parts}
use Rattle.algebra.specs.Values.{val}

-- a typed program: its views, its patterns and dictionaries, its outputs
abbrev pub Program : Type 0
Program = List TypedView × (Lists × List Output)

-- the plan's output has the names of the program's, and on each document the rows that it means, as a bag
pub record ShowsOutput (program : Program) (plan : Parts) (out : Output) (shown : PlanOut) : Type 0 where
  pub names : shown.names ≡ names_of program.0 out
  pub rows : (doc : Document) → SameBag (val plan.lists doc plan.nodes shown.node) (output_rows program.1.0 doc (map body_of program.0) out.view)

-- the form that lowering gives a node: joins are products, none of them conditional, and a `Dict` has one dictionary
abbrev pub IsLoweredForm : Node → Type 0
IsLoweredForm Doc = Unit {0}
IsLoweredForm (Regex input column pattern groups) = Unit {0}
IsLoweredForm (TokenRegex input column low high pattern groups) = Unit {0}
IsLoweredForm (Dict input column dicts) = length dicts ≡ 1
IsLoweredForm (DictPart input number) = Unit {0}
IsLoweredForm (Blocks input column low high from to tokens) = Unit {0}
IsLoweredForm (Select input conds) = Unit {0}
IsLoweredForm (Project input items) = Unit {0}
IsLoweredForm (Cross left right conditional) = conditional ≡ false
IsLoweredForm (SpanJoin left right kind lc rc conditional) = ⊥
IsLoweredForm (Restricted outer source kind lc sought) = ⊥
IsLoweredForm (Union left right) = Unit {0}
IsLoweredForm (Minus left right) = Unit {0}
IsLoweredForm (Consolidate input policy target) = Unit {0}
IsLoweredForm (Group input keys aggs) = Unit {0}
IsLoweredForm (OrderLimit input keys limit) = Unit {0}

abbrev mutual
  -- how many queries and sources a query is made of, itself among them; a source that is a query counts once
  pub query_size : Query → ℕ
  query_size (select sources clauses) = 1 + sources_size sources
  query_size (extract source clauses) = 1 + source_size source
  query_size (union sides) = 1 + sides_size sides
  query_size (minus left right) = 1 + query_size left + query_size right

  pub sides_size : Queries → ℕ
  sides_size no_queries = 0
  sides_size (more_queries side sides) = query_size side + sides_size sides

  pub source_size : Source → ℕ
  source_size document = 1
  source_size (view n) = 1
  source_size (nested query) = query_size query

  pub sources_size : Sources → ℕ
  sources_size no_sources = 0
  sources_size (more_sources source sources) = source_size source + sources_size sources

-- the plan has the program's tables, and its outputs one by one; its nodes have the forms of lowering, and there are at
-- most eight for each query and source of the views, and one for the document
pub record IsLowered (program : Program) (plan : Parts) : Type 0 where
  pub lists : plan.lists ≡ program.1.0
  pub outputs : AllZip (ShowsOutput program plan) program.1.1 plan.outputs
  pub forms : All IsLoweredForm plan.nodes
  pub few : length plan.nodes ≤ 1 + 8 * sum_by query_size (map body_of program.0)
