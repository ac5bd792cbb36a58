use Rattle.std.proofs.Common.{arith}
use Rattle.dict_match.proofs.FoldLemmas.{folded-plain}
use Rattle.dict_match.proofs.fold.is_plain.Goals as goal

pub returns : goal.returns
returns c = λ _. folded-plain c.args.text.now (λ k lt. c.loop-byte.invariant k (omega arith))
