-- What is put for a node of the old plan.
use Rattle.std.specs.Prelude.{ℕ, ◌+◌, ◌<◌, List, [], ◌∷◌, ◌++◌, length, map, All, Option, Some, None, IfSome, slice_index_or}
use Rattle.scalar_ops.specs.Expressions.{Term, column}
use Rattle.algebra.specs.declared.node.Node.{Node}
use Rattle.algebra.specs.declared.node.Node.TheVariants.{Project, SpanJoin, Restricted}
use Rattle.algebra.specs.ExtractionLaws.{columns_from}
use Rattle.algebra.specs.Inputs.{left_input, right_input, with_inputs, IsAmong}
use Rattle.algebra.specs.Mapping.{new_number}
use Rattle.algebra.specs.Nodes.{IsNode}
use Rattle.algebra.specs.Shapes.{shapes_of, no_shape}
use Rattle.restrict_eval.specs.declared.nearness.Near.{Near}
use Rattle.restrict_eval.specs.Rebuilding.{made_conditional}

-- so many columns, and behind them these of the columns that follow
abbrev pub beside : ℕ → List ℕ → List Term
beside width columns = columns_from 0 width ++ map column (map (λ c. width + c) columns)

-- the number of columns of node n
abbrev pub width_at : List Node → ℕ → ℕ
width_at nodes n = (slice_index_or (shapes_of nodes) n no_shape).width

-- a join that looks near the rows of `outer`, and above it, where not all is shown, these rows beside the columns that are
abbrev pub near_nodes : List Node → ℕ → Node → Option (List ℕ) → List Node
near_nodes nodes outer join None = join ∷ []
near_nodes nodes outer join (Some columns) = join ∷ Project (length nodes) (beside (width_at nodes outer) columns) ∷ []

-- what is put behind some nodes for one more
abbrev pub put_for : List Node → List ℕ → Option Near → Node → List Node
put_for nodes to None node = made_conditional (with_inputs (new_number to) node) ∷ []
put_for nodes to (Some near) (SpanJoin left right kind lc rc conditional) =
    near_nodes nodes (new_number to left) (Restricted (new_number to left) (new_number to near.source) kind lc near.sought) near.columns
put_for nodes to (Some near) node = []

-- it may be put there
abbrev pub MayPut : List Node → List ℕ → Option Near → Node → Type 0
MayPut nodes to None node = IsNode (shapes_of nodes) (with_inputs (new_number to) node) × IsAmong (length to) (left_input node) × IsAmong (length to) (right_input node)
MayPut nodes to (Some near) (SpanJoin left right kind lc rc conditional) =
    IsNode (shapes_of nodes) (Restricted (new_number to left) (new_number to near.source) kind lc near.sought) × (left < length to) × (near.source < length to)
    × IfSome near.columns (All (λ c. c < 2))
MayPut nodes to (Some near) node = ⊥
