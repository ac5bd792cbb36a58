use Rattle.std.proofs.Common.{◌≡◌, map}
use Rattle.group_agg.proofs.first_rows.rows_alone.Given as goal

abbrev pub invariant-loop-key : goal.invariant-loop-key
invariant-loop-key l = l.out ≡ record { width = l.width; rows = map (λ p. p.1) l.yielded }
