-- The relations and the functions say the same, and both go by the bag of the rows alone.
use Rattle.std.proofs.Common.{ℕ, ℤ, ◌≡◌, List, Option, length, All}
use Rattle.std.specs.List.{AllZip}
use Rattle.aql_base.specs.Bags.{SameBag}
use Rattle.row_values.specs.Datums.{Datum, null, int}
use Rattle.row_values.specs.Rows.{RowList}
use Rattle.group_agg.specs.Groups.{IsGrouped, IsFromRows, grouped}
use Rattle.group_agg.specs.Limits.{IsLimited, limited}
use Rattle.group_agg.specs.declared.agg.Agg.{Agg}
use Rattle.group_agg.specs.LawProofs.Functions as laws
use Rattle.group_agg.specs.LawProofs.SameInput as same

-- `grouped` is an answer
pub IsGrouped-grouped : (keys : List ℕ) (aggs : List Agg) (rows : List (List Datum)) → IsGrouped keys aggs rows (grouped keys aggs rows)
IsGrouped-grouped = laws.IsGrouped-grouped

-- and each answer is its bag
pub IsGrouped-only : (keys : List ℕ) (aggs : List Agg) (rows out : List (List Datum)) → IsGrouped keys aggs rows out → SameBag (grouped keys aggs rows) out
IsGrouped-only = laws.IsGrouped-only

-- what is neither counted nor added up stands in the rows
pub IsGrouped-among : (rows : List (List Datum)) (keys : List ℕ) (aggs : List Agg) (out : List (List Datum)) → IsGrouped keys aggs rows out → All (λ row. AllZip (IsFromRows rows) aggs row) out
IsGrouped-among = laws.IsGrouped-among

-- rows of one bag have the same answers
pub IsGrouped-SameBag : (keys : List ℕ) (aggs : List Agg) (rows rows' out : List (List Datum)) → SameBag rows rows' → IsGrouped keys aggs rows out → IsGrouped keys aggs rows' out
IsGrouped-SameBag = same.IsGrouped-SameBag

-- and one list
pub grouped-SameBag : (keys : List ℕ) (aggs : List Agg) (rows rows' : List (List Datum)) → SameBag rows rows' → grouped keys aggs rows ≡ grouped keys aggs rows'
grouped-SameBag = laws.grouped-SameBag

-- `limited` is an answer
pub IsLimited-limited : (keys : List ℕ) (limit : Option ℕ) (rows : RowList) → IsLimited keys limit rows (record { width = rows.width; rows = limited keys limit rows.rows })
IsLimited-limited = laws.IsLimited-limited

-- and each answer is its bag
pub IsLimited-only : (keys : List ℕ) (limit : Option ℕ) (rows out : RowList) → IsLimited keys limit rows out → SameBag (limited keys limit rows.rows) out.rows
IsLimited-only = laws.IsLimited-only

-- rows of one bag have the same answers
pub IsLimited-SameBag : (keys : List ℕ) (limit : Option ℕ) (rows rows' out : RowList) → SameBag rows.rows rows'.rows → rows.width ≡ rows'.width → IsLimited keys limit rows out → IsLimited keys limit rows' out
IsLimited-SameBag = same.IsLimited-SameBag

-- and one list
pub limited-SameBag : (keys : List ℕ) (limit : Option ℕ) (rows rows' : List (List Datum)) → SameBag rows rows' → limited keys limit rows ≡ limited keys limit rows'
limited-SameBag = laws.limited-SameBag

-- the first rows are among the rows
pub All-limited : (P : List Datum → Type 0) (keys : List ℕ) (limit : Option ℕ) (rows : List (List Datum)) → All P rows → All P (limited keys limit rows)
All-limited = laws.All-limited

-- a group's row has a value for each aggregate
pub width-grouped : (keys : List ℕ) (aggs : List Agg) (rows : List (List Datum)) → All (λ row. length row ≡ length aggs) (grouped keys aggs rows)
width-grouped = laws.width-grouped

-- what holds of Null, of integers and of each value of the rows holds of each value of the groups' rows
pub All-grouped : (P : Datum → Type 0) → P null → ((n : ℤ) → P (int n)) → (keys : List ℕ) (aggs : List Agg) (rows : List (List Datum)) → All (All P) rows → All (All P) (grouped keys aggs rows)
All-grouped = laws.All-grouped
