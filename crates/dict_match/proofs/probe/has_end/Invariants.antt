use Rattle.std.proofs.Common.{take}
use Rattle.dict_match.specs.Walks.{run_texts, HasEndFor}
use Rattle.dict_match.proofs.probe.has_end.Given as goal

abbrev pub invariant-loop-end : goal.invariant-loop-end
invariant-loop-end l = HasEndFor l.dict (run_texts l.tokens l.first l.past) (take l.end-index l.ends) → ⊥
