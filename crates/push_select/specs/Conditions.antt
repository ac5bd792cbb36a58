-- Conditions on joined rows, by the side that they read.
use Rattle.std.specs.Prelude.{ℕ, ◌-◌, ◌≡◌, List, map, not, All, slice_index_or}
use Rattle.std.specs.List.{filter}
use denote.Ref.{Bor}
use Rattle.span_token.specs.Documents.{Doc}
use Rattle.row_values.specs.Datums.{Datum}
use Rattle.scalar_ops.specs.declared.expr.Expr.{Expr}
use Rattle.scalar_ops.specs.Expressions.{Term, column, number, string, call, none, more, ReadsBelow, does_read_from, renamed}
use Rattle.scalar_ops.specs.SideLaws.{left_conditions, right_conditions, joint_conditions}
use Rattle.scalar_ops.specs.Tables.{Lists}
use Rattle.scalar_ops.specs.Values.{holding}
use Rattle.scalar_ops.specs.Views.{term_of}
use Rattle.push_select.specs.Pushed.{IsAndOp}
use Rattle.push_select.specs.declared.copying.Numbers.{Numbers}
use Rattle.push_select.specs.declared.copying.Numbers.TheVariants as numbers
use Rattle.push_select.specs.declared.sides.Sides.{Sides}
use Rattle.push_select.specs.declared.turning.Turns.{Turns}

-- conditions that are lent, as terms
abbrev pub terms_lent : List (Bor Expr) → List Term
terms_lent = map (λ cond. term_of cond.now)

-- a condition is no `And` of one or more
abbrev pub IsApart : Term → Type 0
IsApart (column n) = Unit {0}
IsApart (number n) = Unit {0}
IsApart (string t) = Unit {0}
IsApart (call o none) = Unit {0}
IsApart (call o (more t ts)) = IsAndOp o → ⊥

-- the sides have parts of the conditions, which hold where these hold and read no other columns, each on the side that it
-- reads alone, and the rest as what reads both; the left side of a row has so many columns
pub record AreSides (width : ℕ) (conds : List Term) (sides : Sides) : Type 0 where
  pub parts : List Term
  pub same : (lists : Lists) (doc : Doc) (row : List Datum) → holding lists doc parts row ≡ holding lists doc conds row
  pub reads : (n : ℕ) → All (ReadsBelow n) conds → All (ReadsBelow n) parts
  pub apart : All IsApart parts
  pub left : sides.left ≡ left_conditions width parts
  pub right : sides.right ≡ right_conditions width parts
  pub joint : map term_of sides.joint.items ≡ joint_conditions width parts

-- of the conditions of a product those that read the columns behind so many alone, with the numbers that they have there, and
-- the others
pub record AreTurns (width : ℕ) (conds : List Term) (turns : Turns) : Type 0 where
  pub later : map term_of turns.later.items ≡ map (renamed (λ n. n - width)) (filter (does_read_from width) conds)
  pub others : map term_of turns.others.items ≡ filter (λ cond. not (does_read_from width cond)) conds

-- the number that a column has below
abbrev pub number_by : Numbers → ℕ → ℕ
number_by (numbers.Less less) n = n - less
number_by (numbers.Listed columns) n = slice_index_or columns.now n 0
