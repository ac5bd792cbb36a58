use Rattle.std.proofs.Common.{◌≡◌, ◌++◌, take}
use Rattle.share_plan.specs.ExprWords.{text_words}
use Rattle.share_plan.proofs.words.push_text.Given as goal

abbrev pub invariant-loop-byte : goal.invariant-loop-byte
invariant-loop-byte l = l.words.items ≡ l.fn.words.items ++ text_words (take l.byte-index l.bytes)
