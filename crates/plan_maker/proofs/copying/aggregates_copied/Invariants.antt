use Rattle.std.proofs.Common.{◌≡◌, take}
use Rattle.plan_maker.proofs.copying.aggregates_copied.Given as goal

abbrev pub invariant-loop-agg : goal.invariant-loop-agg
invariant-loop-agg l = l.copies ≡ take l.agg-index l.aggs
