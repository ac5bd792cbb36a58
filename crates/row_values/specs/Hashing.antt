-- What values and rows give to a hash function: equal ones give the same.
use Rattle.std.specs.Prelude.{◌≡◌, List, [], ◌++◌, IsTrue}
use Rattle.std.specs.Hash as fed
use Rattle.std.specs.Ordering.{eq_by_cmp}
use Rattle.std.proofs.Common.{ap}
use Rattle.row_values.specs.Datums.{Datum, null, int, truth, text, span, kind_of, datum_cmp}
use Rattle.row_values.specs.Rows.{row_cmp}
use Rattle.row_values.specs.RowOrder.{datum_cmp_exact, row_cmp_exact, equal_is}

-- what a value of each kind shows
abbrev pub shown : Datum → fed.HashWrites
shown null = []
shown (int n) = fed.i64 n
shown (truth b) = fed.bool b
shown (text t) = fed.str t
shown (span e) = fed.u32 e.begin ++ fed.u32 e.end

-- the kind, and then what the value shows
abbrev pub datum_input : Datum → fed.HashWrites
datum_input x = fed.u8 (kind_of x) ++ shown x

-- the number of values, and then each
abbrev pub row_input : List Datum → fed.HashWrites
row_input row = fed.slice datum_input row

pub datum_input-same : (x y : Datum) → IsTrue (eq_by_cmp datum_cmp x y) → datum_input x ≡ datum_input y
datum_input-same x y h = ap datum_input (datum_cmp_exact x y (equal_is (datum_cmp x y) h))

pub row_input-same : (x y : List Datum) → IsTrue (eq_by_cmp row_cmp x y) → row_input x ≡ row_input y
row_input-same x y h = ap row_input (row_cmp_exact x y (equal_is (row_cmp x y) h))
