use Rattle.std.proofs.Common.{rules, ap, map, ◌∙◌, sym}
use Rattle.std.proofs.lemmas.List.{map-id}
use Rattle.std.proofs.lemmas.Iterator.Consumers.{YieldsList-from_rest, YieldsList-end}
use Rattle.corpus_json.specs.NameIndexes.{entry_index}
use Rattle.corpus_json.proofs.write.order.listed.Goals as goal

pub returns : goal.returns
returns c =
    let road = YieldsList-from_rest {shows = λ x. x} {s = c.into_iter-name-iterator.result} c.args.indexes.entries (search rules) in
    let all = YieldsList-end road c.indexes.yielded c.indexes.name-iterator c.indexes.yielded_by c.next.result c.next.new.self c.in-None.is (c.next.ensures.steps) in
    c.indexes.invariant ∙ ap (map entry_index) (sym (map-id c.indexes.yielded) ∙ all.0)
