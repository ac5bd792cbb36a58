use Rattle.std.proofs.Common.{◌≡◌, take}
use Rattle.plan_maker.proofs.copying.numbers_copied.Given as goal

abbrev pub invariant-loop-number : goal.invariant-loop-number
invariant-loop-number l = l.copies ≡ take l.number-index l.numbers
