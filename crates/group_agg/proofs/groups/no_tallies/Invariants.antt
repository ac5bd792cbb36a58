use Rattle.std.proofs.Common.{◌≡◌, vec_len, All, []}
use Rattle.group_agg.proofs.groups.no_tallies.Given as goal

abbrev pub invariant-loop : goal.invariant-loop
invariant-loop l = (vec_len l.columns ≡ l.counter) × All (λ column. column ≡ []) l.columns.items
