-- What stands in the new plan for the nodes of the old one: each with its inputs renumbered, joins conditional, and some joins
-- looked for near their left rows.
use Rattle.std.specs.Prelude.{ℕ, ◌+◌, ◌≡◌, ◌<◌, Bool, true, List, length, map, Some, slice_get}
use Rattle.scalar_ops.specs.Expressions.{column}
use Rattle.algebra.specs.declared.node.JoinKind.{JoinKind}
use Rattle.algebra.specs.declared.node.Node.{Node}
use Rattle.algebra.specs.declared.node.Node.TheVariants.{Project, Cross, SpanJoin, Restricted}
use Rattle.algebra.specs.Inputs.{with_inputs}
use Rattle.algebra.specs.Mapping.{every, new_number, IsMapped}
use Rattle.restrict_eval.specs.Restricting.{IsLive, IsRestrictable}

-- the node, as a join that asks for its right input only where its left one has a row, where it is a join
abbrev pub made_conditional : Node → Node
made_conditional (Cross left right conditional) = Cross left right true
made_conditional (SpanJoin left right kind lc rc conditional) = SpanJoin left right kind lc rc true
made_conditional node = node

module _ (old : List Node) (outputs : List ℕ) (new : List Node) (to : List ℕ) where
  -- the node, with its inputs renumbered
  abbrev pub taken_over : Node → Node
  taken_over node = made_conditional (with_inputs (new_number to) node)

  -- node n of the new plan looks for what join j joins, near its left rows
  pub record IsNearJoin (j n : ℕ) : Type 0 where
    pub left : ℕ
    pub right : ℕ
    pub kind : JoinKind
    pub lc : ℕ
    pub rc : ℕ
    pub conditional : Bool
    pub is : slice_get old j ≡ Some (SpanJoin left right kind lc rc conditional)
    pub live : IsLive old outputs j
    pub may : IsRestrictable old outputs j right rc
    pub at : slice_get new n ≡ Some (Restricted (new_number to left) (new_number to may.found.source) kind lc may.found.part)

  -- the node isn't a live join of which the right input can be looked for near its left rows
  abbrev pub IsLeft : ℕ → Node → Type 0
  IsLeft i node =
      (left right lc rc : ℕ) (kind : JoinKind) (conditional : Bool) → node ≡ SpanJoin left right kind lc rc conditional → IsLive old outputs i
      → IsRestrictable old outputs i right rc → ⊥

  -- what stands for node i: the node itself, a join that looks near its left rows, or columns of such a join
  pub data IsStood (i : ℕ) (node : Node) : Type 0 where
    same : IsLeft i node → slice_get new (new_number to i) ≡ Some (taken_over node) → IsStood i node
    near : IsNearJoin i (new_number to i) → IsStood i node
    shown : (n : ℕ) (columns : List ℕ) → IsNearJoin i n → new_number to i ≡ n + 1 → slice_get new (new_number to i) ≡ Some (Project n (map column columns)) → IsStood i node

  -- for which node of the old plan node m of the new one is there
  pub data IsFor (m : ℕ) : Type 0 where
    itself : (i : ℕ) → i < length to → m ≡ new_number to i → IsFor m
    below : (i : ℕ) (columns : List ℕ) → i < length to → IsNearJoin i m → new_number to i ≡ m + 1 → slice_get new (new_number to i) ≡ Some (Project m (map column columns)) → IsFor m

-- the new plan has for each node of the old one what stands for it, in the same order, and no other node
pub record IsRestrictedFrom (old : List Node) (outputs : List ℕ) (new : List Node) (to : List ℕ) : Type 0 where
  pub mapped : IsMapped every old new to
  pub stood : (i : ℕ) (node : Node) → slice_get old i ≡ Some node → IsStood old outputs new to i node
  pub rising : (i k : ℕ) → i < k → k < length to → new_number to i < new_number to k
  pub from : (m : ℕ) → m < length new → IsFor old outputs new to m
