use Rattle.std.proofs.Common.{◌≡◌, ℕ, ◌+◌, ◌<◌, List, [], ◌∷◌, ◌++◌, Option, Some, None, map, length, take, get_or, Vec, Global, sym, ap, ap₂, ◌∙◌, arith}
use Rattle.std.proofs.lemmas.List.{take_more, map_push, length-map, length-take-le}
use Rattle.span_token.specs.Extents.{Extent, extent_of}
use Rattle.span_token.specs.declared.span.Span.{Span}
use Rattle.span_sets.specs.Consolidation.{target_of}
use Rattle.span_sets.specs.Candidates.{candidates_from}
use Rattle.span_sets.specs.declared.candidate.Candidate.{Candidate}
use Rattle.span_sets.specs.LawProofs.CandidateLists.{candidates_from-null, candidates_from-some, candidates_from-nil}
use Rattle.span_sets.proofs.candidate.candidates.Goals as goal
use Rattle.span_sets.proofs.candidate.candidates.Goals.{in-Some+in_ok-push, in_default}

pub loop-i-init : goal.loop-i-init
loop-i-init c = c.in_ok-found.ensures.items ∙ sym (candidates_from-nil c.args.mirror 0)

-- the targets so far, and one more
taken : (targets : List (Option Span)) (i : ℕ) (read o : Option Span) → i < length targets → read ≡ get_or targets i read → read ≡ o → map target_of (take (i + 1) targets) ≡ map target_of (take i targets) ++ target_of o ∷ []
taken targets i read o short is same =
    ap (λ ts. map target_of ts) (take_more targets i read short) ∙ map_push target_of (take i targets) _ ∙ ap (λ (t : Option Span). map target_of (take i targets) ++ target_of t ∷ []) (sym is ∙ same)

so_far : (targets : List (Option Span)) (i : ℕ) → i < length targets → 0 + length (map target_of (take i targets)) ≡ i
so_far targets i h = omega (arith, length-map (take i targets) target_of, length-take-le i targets (omega arith))

pub loop-i-preserved : goal.loop-i-preserved
loop-i-preserved c =
    let short : c.loop-i.i < length c.args.targets.now = omega arith in
    let before : List (Option Extent) = map target_of (take c.loop-i.i c.args.targets.now) in
    elim c.match-target.branch [
      | in-Some+in_ok-push w ↦
          ap (λ (found : Vec Candidate Global). found.items) w.found-is ∙ w.in_ok-push.ensures.items ∙ ap₂ (λ (cs : List Candidate) (x : Candidate). cs ++ x ∷ []) c.loop-i.invariant w.candidate_for.ensures
          ∙ sym (candidates_from-some c.args.mirror 0 c.loop-i.i before (extent_of w.in-Some.span) (so_far c.args.targets.now c.loop-i.i short))
          ∙ ap (λ ts. candidates_from c.args.mirror 0 ts) (sym (taken c.args.targets.now c.loop-i.i c.index-targets-i.result (Some w.in-Some.span) short c.index-targets-i.is w.in-Some.is))
      | in_default w ↦
          ap (λ (found : Vec Candidate Global). found.items) w.found-is ∙ c.loop-i.invariant
          ∙ sym (candidates_from-null c.args.mirror 0 before)
          ∙ ap (λ ts. candidates_from c.args.mirror 0 ts) (sym (taken c.args.targets.now c.loop-i.i c.index-targets-i.result None short c.index-targets-i.is w.in_default.is))
    ]
