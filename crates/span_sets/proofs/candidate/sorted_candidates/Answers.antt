use Rattle.std.proofs.Common.{map, subst}
use Rattle.std.specs.List.Sorted.{IsPermutation}
use Rattle.span_sets.specs.declared.candidate.Candidate.{Candidate}
use Rattle.std.proofs.Common.{List}
use Rattle.span_sets.specs.Consolidation.{target_of}
use Rattle.span_sets.specs.LawProofs.CandidateLists.{AreSorted-from_sort, AreCandidatesOf-from_sort}
use Rattle.span_sets.proofs.candidate.sorted_candidates.Goals as goal

pub returns-clause-sorted : goal.returns-clause-sorted
returns-clause-sorted c =
    AreSorted-from_sort c.args.mirror (map target_of c.args.targets.now) c.sort_unstable.new.self.items
    (subst (λ (cs : List Candidate). IsPermutation cs c.sort_unstable.new.self.items) c.in_ok-candidates.ensures c.sort_unstable.ensures.permutation) c.sort_unstable.ensures.sorted

pub returns-clause-known : goal.returns-clause-known
returns-clause-known c =
    AreCandidatesOf-from_sort c.args.mirror (map target_of c.args.targets.now) c.sort_unstable.new.self.items
    (subst (λ (cs : List Candidate). IsPermutation cs c.sort_unstable.new.self.items) c.in_ok-candidates.ensures c.sort_unstable.ensures.permutation)
