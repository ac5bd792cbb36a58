use Rattle.json.specs.Written.{PlainBetween}
use Rattle.corpus_json.proofs.write.plain.plain_few.Given as goal

abbrev pub invariant-text : goal.invariant-text
invariant-text l = PlainBetween l.text 0 l.byte-index
