use Rattle.std.proofs.Common.{◌≡◌, map}
use Rattle.corpus_json.specs.NameIndexes.{name_index, entry_index}
use Rattle.corpus_json.proofs.write.order.listed.Given as goal

abbrev pub invariant-indexes : goal.invariant-indexes
invariant-indexes l = map name_index l.list.items ≡ map entry_index l.yielded
