use Rattle.std.proofs.Common.{◌≡◌, ℕ, ◌<◌, [], get_or}
use Rattle.dict_match.specs.Walks.{run_texts}
use Rattle.dict_match.proofs.walk.are_spelled.Given as goal

abbrev pub invariant-loop-i : goal.invariant-loop-i
invariant-loop-i l = (k : ℕ) → k < l.i → get_or l.texts k [] ≡ get_or (run_texts l.tokens l.first l.past) k []
