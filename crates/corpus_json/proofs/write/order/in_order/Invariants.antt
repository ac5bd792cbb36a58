use Rattle.std.proofs.Common.{◌≡◌, map, drop}
use Rattle.corpus_json.specs.NameIndexes.{entry_index, name_indexes}
use Rattle.corpus_json.proofs.NameIndexLemmas.{with_rest}
use Rattle.corpus_json.proofs.write.order.in_order.Given as goal

abbrev pub invariant-names : goal.invariant-names
invariant-names l = with_rest (map entry_index l.indexes.entries) l.index (drop l.index (map (λ name. name.now) l.fn.names)) ≡ name_indexes (map (λ name. name.now) l.fn.names)
