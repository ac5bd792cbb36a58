use Rattle.std.proofs.Common.{◌≡◌, ◌++◌, flat_map, map, string_bytes}
use Rattle.demo_corpus.specs.NamedTotals.{named_total}
use Rattle.demo_corpus.specs.Summaries.{summary_line}
use Rattle.demo_corpus.proofs.summary.push_totals.Given as goal

abbrev pub invariant-totals : goal.invariant-totals
invariant-totals l = string_bytes l.text ≡ string_bytes l.initial.text ++ flat_map summary_line (map named_total l.yielded)
