use Rattle.std.proofs.Common.{ℕ, ◌≡◌, ◌<◌, [], map, get_or, vec_len}
use Rattle.group_agg.specs.Tallies.{finished_at}
use Rattle.group_agg.proofs.groups.group_rows.Given as goal

abbrev pub invariant-loop-g : goal.invariant-loop-g
invariant-loop-g l = (vec_len l.out ≡ l.g) × ((k : ℕ) → k < l.g → get_or l.out.items k [] ≡ map (finished_at k) l.columns)
