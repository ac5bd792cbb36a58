use Rattle.std.proofs.Common.{◌≡◌, map, take}
use Rattle.span_sets.specs.Consolidation.{target_of}
use Rattle.span_sets.specs.Candidates.{candidates_from}
use Rattle.span_sets.proofs.candidate.candidates.Given as goal

abbrev pub invariant-loop-i : goal.invariant-loop-i
invariant-loop-i l = l.found.items ≡ candidates_from l.mirror 0 (map target_of (take l.i l.targets))
