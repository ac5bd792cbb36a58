use Rattle.std.proofs.Common.{◌≡◌, ◌⊎◌, take}
use Rattle.std.specs.List.{All}
use Rattle.restrict_eval.proofs.readers.are_these.Given as goal

abbrev pub invariant-loop-k : goal.invariant-loop-k
invariant-loop-k l = All (λ k. (k ≡ l.a) ⊎ (k ≡ l.b)) (take l.k-index l.readers)
