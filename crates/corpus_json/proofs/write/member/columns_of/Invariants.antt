use Rattle.std.proofs.Common.{◌≡◌, map, take}
use Rattle.corpus_json.specs.NameIndexes.{column_index, name_index}
use Rattle.corpus_json.proofs.write.member.columns_of.Given as goal

abbrev pub invariant-order : goal.invariant-order
invariant-order l = map column_index l.columns.items ≡ map name_index (take l.named-index l.order)
