use Rattle.std.proofs.Common.{◌≡◌, ◌++◌, map, pos, take}
use Rattle.share_plan.proofs.words.push_numbers.Given as goal

abbrev pub invariant-loop-number : goal.invariant-loop-number
invariant-loop-number l = l.words.items ≡ l.fn.words.items ++ map pos (take l.number-index l.numbers)
