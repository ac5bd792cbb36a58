use Rattle.std.proofs.Common.{◌≡◌, length}
use Rattle.std.specs.Prelude.{vec_len}
use Rattle.aql_bench.proofs.consolidations.SpanRowsBench.round.Given as goal

abbrev pub invariant-loop-span : goal.invariant-loop-span
invariant-loop-span l = (l.rows.width ≡ 1) × (vec_len l.targets ≡ length l.rows.rows)
