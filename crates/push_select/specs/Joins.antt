-- The join by spans that a condition on joined rows stands for.
use Rattle.std.specs.Prelude.{ℕ, ◌-◌, ◌<◌, ◌≡◌, nat_lt, Bool, true, false, List, [], ◌∷◌, length, slice_index_or, Option, Some, None}
use Rattle.scalar_ops.specs.declared.expr.Expr.{Expr}
use Rattle.scalar_ops.specs.declared.op.Op.{Op}
use Rattle.scalar_ops.specs.declared.op.Op.TheVariants as op
use Rattle.scalar_ops.specs.Expressions.{Term, column, number, string, call, list_of}
use Rattle.scalar_ops.specs.Views.{term_of}
use Rattle.algebra.specs.declared.node.JoinKind.{JoinKind}
use Rattle.algebra.specs.declared.node.JoinKind.TheVariants as kind
use Rattle.push_select.specs.declared.join.Choice.{Choice}
use Rattle.push_select.specs.declared.join.Join.{Join}

-- the kinds of join that a predicate of two columns stands for: where its first argument is the left column, and where it is
-- the right one
abbrev pub kinds_of : Op → Option (JoinKind × JoinKind)
kinds_of (op.Follows min max) = Some (kind.Follows min max, kind.FollowsBack min max)
kinds_of (op.FollowsTok min max) = Some (kind.FollowsTok min max, kind.FollowsTokBack min max)
kinds_of op.Overlaps = Some (kind.Overlaps, kind.Overlaps)
kinds_of op.Contains = Some (kind.Contains, kind.ContainsBack)
kinds_of o = None

-- the number of a column
abbrev pub column_of : Term → Option ℕ
column_of (column n) = Some n
column_of (number n) = None
column_of (string t) = None
column_of (call o args) = None

-- two numbers, where both are there
abbrev pub both : Option ℕ → Option ℕ → Option (ℕ × ℕ)
both None b = None
both (Some a) None = None
both (Some a) (Some b) = Some (a, b)

-- the numbers of two arguments that are columns
abbrev pub two_columns : List Term → Option (ℕ × ℕ)
two_columns [] = None
two_columns (s ∷ []) = None
two_columns (s ∷ t ∷ []) = both (column_of s) (column_of t)
two_columns (s ∷ t ∷ u ∷ ts) = None

-- the join of two columns of which one is on the left side, by whether the first and the second is
abbrev pub join_by_sides : Bool → Bool → ℕ → JoinKind × JoinKind → ℕ × ℕ → Option Join
join_by_sides true false width kinds columns = Some (record { kind = kinds.0; lc = columns.0; rc = columns.1 - width })
join_by_sides false true width kinds columns = Some (record { kind = kinds.1; lc = columns.1; rc = columns.0 - width })
join_by_sides true true width kinds columns = None
join_by_sides false false width kinds columns = None

-- where the left side has so many columns
abbrev pub join_between : ℕ → JoinKind × JoinKind → ℕ × ℕ → Option Join
join_between width kinds columns = join_by_sides (nat_lt columns.0 width) (nat_lt columns.1 width) width kinds columns

-- of two columns and two kinds, where they are there
abbrev pub join_with : ℕ → Option (ℕ × ℕ) → Option (JoinKind × JoinKind) → Option Join
join_with width None kinds = None
join_with width (Some columns) None = None
join_with width (Some columns) (Some kinds) = join_between width kinds columns

-- the join that an operator with its arguments stands for
abbrev pub join_by : ℕ → Op → List Term → Option Join
join_by width o args = join_with width (two_columns args) (kinds_of o)

-- the join that a condition stands for: a predicate of two columns, one of each side
abbrev pub join_of : ℕ → Term → Option Join
join_of width (column n) = None
join_of width (number n) = None
join_of width (string t) = None
join_of width (call o args) = join_by width o (list_of args)

-- which join is taken first of several: one by a distance, then one by an overlap, then one by a containment
abbrev pub rank_of : JoinKind → ℕ
rank_of (kind.Follows min max) = 0
rank_of (kind.FollowsTok min max) = 0
rank_of kind.Overlaps = 1
rank_of kind.Contains = 2
rank_of (kind.FollowsBack min max) = 0
rank_of (kind.FollowsTokBack min max) = 0
rank_of kind.ContainsBack = 2

-- no join, or one of another rank
abbrev pub IsOfOtherRank : ℕ → Option Join → Type 0
IsOfOtherRank rank None = Unit {0}
IsOfOtherRank rank (Some j) = rank_of j.kind ≡ rank → ⊥

-- a condition with its number, and the join that it stands for
pub record IsChoice (width : ℕ) (conds : List Expr) (choice : Choice) : Type 0 where
  pub cond : Expr
  pub there : choice.number < length conds
  pub at : cond ≡ slice_index_or conds choice.number cond
  pub joins : join_of width (term_of cond) ≡ Some choice.join
