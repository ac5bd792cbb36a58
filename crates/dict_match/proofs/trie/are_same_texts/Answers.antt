use Rattle.std.proofs.Common.{arith, refl, []}
use Rattle.std.proofs.lemmas.List.{ext_get_or}
use Rattle.dict_match.proofs.trie.are_same_texts.Goals as goal

pub returns : goal.returns
returns c = (λ _. ext_get_or [] c.args.a.now c.args.b.now c.if-a-b.false (λ i lt. c.loop-i.invariant i (omega arith)), λ _. refl)
