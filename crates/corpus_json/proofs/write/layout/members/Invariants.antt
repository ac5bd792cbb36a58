use Rattle.std.proofs.Common.{◌≡◌, map, take}
use Rattle.corpus_json.specs.NameIndexes.{name_index}
use Rattle.corpus_json.specs.Sections.{section_of, section_at}
use Rattle.corpus_json.proofs.write.layout.members.Given as goal

abbrev pub invariant-indexes : goal.invariant-indexes
invariant-indexes l = map section_of l.members.items ≡ map (section_at l.outputs) (map name_index (take l.named-index l.indexes))
