use Rattle.std.proofs.Common.{◌≡◌, map}
use Rattle.std.specs.List.{zip}
use Rattle.demo_corpus.specs.NamedTotals.{named_total}
use Rattle.demo_corpus.specs.Summaries.{by_name}
use Rattle.demo_corpus.proofs.NamedTotals.{names, with_rest}
use Rattle.demo_corpus.proofs.summary.named.Given as goal

abbrev pub invariant-outputs : goal.invariant-outputs
invariant-outputs l = with_rest (map named_total l.named.entries) l.fn.outputs l.fn.totals l.index ≡ by_name (zip (names l.fn.outputs) l.fn.totals)
