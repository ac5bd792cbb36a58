-- The form that pushing gives to a plan: which conditions stand right above a product or a join, and that joins ask for both
-- of their inputs.
use Rattle.std.specs.Prelude.{ℕ, ◌≡◌, ◌<◌, ◌≤◌, ◌⊎◌, false, List, map, All, Option, Some, slice_get, slice_index_or}
use Rattle.scalar_ops.specs.declared.op.Op.{Op}
use Rattle.scalar_ops.specs.declared.op.Op.TheVariants as op
use Rattle.scalar_ops.specs.Expressions.{Term, column, number, string, call, ReadsBelow, ReadsFrom}
use Rattle.algebra.specs.declared.node.Node.{Node}
use Rattle.algebra.specs.declared.node.Node.TheVariants.{Select, Project, Cross, SpanJoin, Restricted, Union}
use Rattle.algebra.specs.Predicates.{of_columns}
use Rattle.algebra.specs.Shapes.{no_shape, shapes_of}

-- the number of columns of node n
abbrev pub width_at : List Node → ℕ → ℕ
width_at nodes n = (slice_index_or (shapes_of nodes) n no_shape).width

-- the predicates of two spans that joins stand for
abbrev pub IsOfSpans : Op → Type 0
IsOfSpans (op.Follows min max) = Unit {0}
IsOfSpans (op.FollowsTok min max) = Unit {0}
IsOfSpans op.Overlaps = Unit {0}
IsOfSpans op.Contains = Unit {0}
IsOfSpans o = ⊥

-- of two columns of a joined row, whose left side has so many, there is one of each side
abbrev pub AreOfBothSides : ℕ → ℕ → ℕ → Type 0
AreOfBothSides width a b = ((a < width) × (width ≤ b)) ⊎ ((b < width) × (width ≤ a))

-- the condition is such a predicate of two plain columns, one of each side
pub record IsSpanPredicate (width : ℕ) (cond : Term) : Type 0 where
  pub o : Op
  pub a : ℕ
  pub b : ℕ
  pub is : cond ≡ of_columns o a b
  pub of_spans : IsOfSpans o
  pub of_both : AreOfBothSides width a b

-- the condition reads columns of both sides
pub record ReadsBoth (width : ℕ) (cond : Term) : Type 0 where
  pub left : ReadsFrom width cond → ⊥
  pub right : ReadsBelow width cond → ⊥

-- an operator is `And`
abbrev pub IsAndOp : Op → Type 0
IsAndOp op.And = Unit {0}
IsAndOp o = ⊥

-- a condition is several
abbrev pub IsAnd : Term → Type 0
IsAnd (column n) = ⊥
IsAnd (number n) = ⊥
IsAnd (string t) = ⊥
IsAnd (call o args) = IsAndOp o

-- the condition reads columns of both sides, no join stands for it, and it is no `And`
pub record ReadsBothFreely (width : ℕ) (cond : Term) : Type 0 where
  pub both : ReadsBoth width cond
  pub no_join : IsSpanPredicate width cond → ⊥
  pub no_and : IsAnd cond → ⊥

-- a node is a projection of plain columns
abbrev pub ShowsColumns : Option Node → Type 0
ShowsColumns (Some (Project input items)) = (columns : List ℕ) × (items ≡ map column columns)
ShowsColumns below = ⊥

-- conditions may stand right above a node: above a join those that read both of its sides, above a product those of them
-- that no join stands for, none above a projection of plain columns or a union, and any above other nodes
abbrev pub StandAbove : List Node → List Term → Option Node → Type 0
StandAbove nodes conds (Some (Cross left right conditional)) = All (ReadsBothFreely (width_at nodes left)) conds
StandAbove nodes conds (Some (SpanJoin left right join lc rc conditional)) = All (ReadsBoth (width_at nodes left)) conds
StandAbove nodes conds (Some (Project input items)) = ShowsColumns (Some (Project input items)) → ⊥
StandAbove nodes conds (Some (Union left right)) = ⊥
StandAbove nodes conds below = Unit {0}

-- a selection or a projection may stand where it does: no projection above one of plain columns
abbrev pub MayStand : List Node → Node → Type 0
MayStand nodes (Select input conds) = StandAbove nodes conds (slice_get nodes input)
MayStand nodes (Project input items) = ShowsColumns (slice_get nodes input) → ⊥
MayStand nodes node = Unit {0}

-- every selection and every projection of a plan may stand where it does
abbrev pub ArePushed : List Node → Type 0
ArePushed nodes = All (MayStand nodes) nodes

-- a join asks for both of its inputs, and none looks near its left rows
abbrev pub IsUnrestricted : Node → Type 0
IsUnrestricted (Cross left right conditional) = conditional ≡ false
IsUnrestricted (SpanJoin left right join lc rc conditional) = conditional ≡ false
IsUnrestricted (Restricted outer source join lc sought) = ⊥
IsUnrestricted node = Unit {0}

-- so does every join of a plan
abbrev pub AreUnrestricted : List Node → Type 0
AreUnrestricted nodes = All IsUnrestricted nodes
