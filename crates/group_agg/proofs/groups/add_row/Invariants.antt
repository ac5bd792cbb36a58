use Rattle.std.proofs.Common.{ℕ, ◌≡◌, ◌<◌, ◌≤◌, ◌+◌, [], get_or, vec_len, set, All}
use Rattle.row_values.specs.Datums.{null}
use Rattle.group_agg.specs.Tallies.{added, best, IsBounded}
use Rattle.group_agg.specs.declared.agg.Agg.TheVariants.{Count}
use Rattle.group_agg.proofs.GroupKeys.{AreBounded}
use Rattle.group_agg.proofs.groups.add_row.Given as goal

abbrev pub invariant-loop-j : goal.invariant-loop-j
invariant-loop-j l = record {
  len : vec_len l.columns ≡ vec_len l.initial.columns;
  added : (k : ℕ) → k < l.j → get_or l.columns.items k [] ≡ set (get_or l.initial.columns.items k []) l.number (added (get_or l.aggs k Count) (get_or (get_or l.initial.columns.items k []) l.number (best null)) l.row);
  left : (k : ℕ) → l.j ≤ k → get_or l.columns.items k [] ≡ get_or l.initial.columns.items k [];
  bounded : (n : ℕ) → AreBounded n l.initial.columns.items → (k : ℕ) → k < l.j → All (IsBounded (n + 1)) (get_or l.columns.items k []);
}
