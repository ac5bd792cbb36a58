use Rattle.std.proofs.Common.{◌≡◌, ◌<◌, ◌≤◌, ◌++◌, ℕ, Bool, List, min}
use Rattle.std.specs.List.{filter}
use Rattle.row_values.specs.Datums.{Datum}
use Rattle.row_values.specs.Rows.{RowsLieIn}
use Rattle.plan_operators.specs.Neighbourhoods.{BeginIn, rows_between, stretch_at}
use Rattle.plan_operators.proofs.restricted.push_near.Given as goal

abbrev pub invariant-loop-stretch : goal.invariant-loop-stretch
invariant-loop-stretch l = record {
  ahead : l.begin ≤ l.done;
  within : l.done ≤ l.past;
  width : l.into.width ≡ l.fn.into.width;
  lies : RowsLieIn l.doc l.fn.into.rows → RowsLieIn l.doc l.into.rows;
  same : l.tools ≡ l.fn.tools;
  passed : (n : ℕ) → n < l.stretch-index → min (stretch_at l.stretches n).past l.past ≤ l.done;
  kept : (keep : List Datum → Bool) → BeginIn l.doc l.reach l.stretches l.row keep
      → filter keep l.into.rows ≡ filter keep (l.fn.into.rows ++ rows_between l.fn.tools l.doc l.local l.row l.past l.begin l.done);
}
