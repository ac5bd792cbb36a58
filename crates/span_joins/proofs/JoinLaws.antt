-- A list of rows is a join where it is the bag that a test picks.
use Rattle.std.proofs.Common.{◌≡◌, ℕ, ◌+◌, Bool, true, ◌↔◌}
use Rattle.aql_base.specs.Bags.{SameBag}
use Rattle.span_token.specs.Extents.{Extent}
use Rattle.row_values.specs.Rows.{RowList}
use Rattle.span_joins.specs.Joins.{joined_where, IsJoin}

-- where the test decides the predicate
pub IsJoin-from : (P : Extent → Extent → Type 0) (test : Extent → Extent → Bool) → ((a b : Extent) → (test a b ≡ true) ↔ P a b) → (left : RowList) (lc : ℕ) (right : RowList) (rc : ℕ) (out : RowList)
    → SameBag out.rows (joined_where test left.rows lc right.rows rc) → out.width ≡ left.width + right.width → IsJoin P left lc right rc out
IsJoin-from P test decides left lc right rc out rows width = record { test = test; decides = decides; rows_are = rows; width_is = width }
