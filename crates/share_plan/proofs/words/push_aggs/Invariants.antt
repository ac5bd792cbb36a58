use Rattle.std.proofs.Common.{◌≡◌, ◌++◌, take}
use Rattle.std.specs.List.{flat_map}
use Rattle.share_plan.specs.Words.{agg_words}
use Rattle.share_plan.proofs.words.push_aggs.Given as goal

abbrev pub invariant-loop-agg : goal.invariant-loop-agg
invariant-loop-agg l = l.words.items ≡ l.fn.words.items ++ flat_map agg_words (take l.agg-index l.aggs)
