use Rattle.std.proofs.Common.{◌++◌, flat_map, rules, ap, map, string_bytes, ◌∙◌, sym}
use Rattle.std.proofs.lemmas.List.{map-id}
use Rattle.std.proofs.lemmas.Iterator.Consumers.{YieldsList-from_rest, YieldsList-end}
use Rattle.demo_corpus.specs.NamedTotals.{named_total}
use Rattle.demo_corpus.specs.Summaries.{summary_line}
use Rattle.demo_corpus.proofs.summary.push_totals.Goals as goal

pub returns : goal.returns
returns c =
    let road = YieldsList-from_rest {shows = λ x. x} {s = c.into_iter-name-iterator.result} c.args.named.entries (search rules) in
    let all = YieldsList-end road c.totals.yielded c.totals.name-iterator c.totals.yielded_by c.next.result c.next.new.self c.in-None.is (c.next.ensures.steps) in
    c.totals.invariant ∙ ap (λ entries. string_bytes c.args.text.now ++ flat_map summary_line (map named_total entries)) (sym (map-id c.totals.yielded) ∙ all.0)
