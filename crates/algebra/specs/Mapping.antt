-- The nodes of a plan and the nodes of another that stand for them.
use Rattle.std.specs.Prelude.{ℕ, ◌≡◌, ◌<◌, List, length, slice_index_or, IfSome}
use Rattle.aql_base.specs.Bags.{SameBag}
use Rattle.span_token.specs.Documents.{Doc}
use Rattle.scalar_ops.specs.Tables.{Lists}
use Rattle.algebra.specs.declared.node.Node.{Node}
use Rattle.algebra.specs.declared.output.PlanOut.{PlanOut}
use Rattle.algebra.specs.Inputs.{left_input, right_input}
use Rattle.algebra.specs.Values.{val}
use Rattle.algebra.specs.Shapes.{shapes_of, no_shape}

-- the number that stands for node i
abbrev pub new_number : List ℕ → ℕ → ℕ
new_number to i = slice_index_or to i 0

-- each old node that is kept has a new one of its shape and, on each document, its rows, as a bag
pub record IsMapped (Kept : ℕ → Type 0) (old new : List Node) (to : List ℕ) : Type 0 where
  pub long : length to ≡ length old
  pub there : (i : ℕ) → i < length to → Kept i → new_number to i < length new
  pub shaped : (i : ℕ) → i < length to → Kept i → slice_index_or (shapes_of new) (new_number to i) no_shape ≡ slice_index_or (shapes_of old) i no_shape
  pub same : (lists : Lists) (doc : Doc) (i : ℕ) → i < length to → Kept i → SameBag (val lists doc new (new_number to i)) (val lists doc old i)

-- every node is kept
abbrev pub every : ℕ → Type 0
every i = Unit {0}

-- the inputs of the node are kept
pub record KeepsInputs (Kept : ℕ → Type 0) (node : Node) : Type 0 where
  pub left : IfSome (left_input node) Kept
  pub right : IfSome (right_input node) Kept

-- the output, shown by the node that stands for its own
abbrev pub renumbered : List ℕ → PlanOut → PlanOut
renumbered to out = record { names = out.names; node = new_number to out.node }

-- the nodes so far, of which each has a new one, and what a rewrite knows
pub record IsRebuilt (Knows : Type 0) (old new : List Node) (to : List ℕ) : Type 0 where
  pub mapped : IsMapped every old new to
  pub knows : Knows
