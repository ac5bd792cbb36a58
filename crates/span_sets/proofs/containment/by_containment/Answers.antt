use Rattle.std.proofs.Common.{◌≡◌, ℕ, ◌+◌, ◌↔◌, Bool, true, false, IsTrue, List, [], ◌∷◌, length, length-append, get_or, refl, sym, ap, subst, arith, true≢false}
use Rattle.std.specs.Bool.{OnTrue, OnFalse}
use Rattle.std.proofs.lemmas.Bool.{OnTrue_at, OnFalse_at}
use Rattle.span_sets.specs.Candidates.{AreAlike, IsNew, IsUncovered}
use Rattle.span_sets.specs.declared.candidate.Candidate.{Candidate}
use Rattle.span_sets.specs.LawProofs.Sweeps.{IsReached-none, IsReached-next, uncovered-new, uncovered-old, answered-push, both_true, first_false}
use Rattle.span_sets.proofs.containment.by_containment.Goals as goal
use Rattle.span_sets.proofs.containment.by_containment.Goals.{then-is_new, else-is_new, then-passes, else-passes}

pub loop-i-init : goal.loop-i-init
loop-i-init c = record {
  number = ap (λ (bs : List Bool). length bs) c.in_ok-answers.ensures.items;
  answered = λ k h. absurd (omega arith);
  reached = IsReached-none c.args.sorted.now;
}

new_is : (sorted : List Candidate) (i : ℕ) (r : Bool) → OnTrue r (IsNew sorted i) → OnFalse r ((k : ℕ) × (k + 1 ≡ i) × AreAlike sorted k i) → (r ≡ true) ↔ IsNew sorted i
new_is sorted i true new alike = ((λ t. new), (λ n. refl))
new_is sorted i false new alike = ((λ t. absurd (true≢false (sym t))), (λ n. absurd (n alike.0 (omega (arith, alike.1)) alike.2)))

pub loop-i-preserved : goal.loop-i-preserved
loop-i-preserved c =
    let sorted : List Candidate = c.args.sorted.now in
    let i : ℕ = c.loop-i.i in
    let x : Bool = c.if-passes.push in
    let b : Bool = c.if-is_new.is_uncovered in
    let reached = c.loop-i.invariant.reached in
    let open' : (b ≡ true) ↔ IsUncovered sorted i = elim c.if-is_new.branch [
      | then-is_new w ↦ uncovered-new sorted c.requires i c.loop-i.past c.loop-i.is_uncovered c.loop-i-test.true reached (OnTrue_at w.if-is_new.true c.is_new-is_new.ensures.new) c.from-far.result c.from-far.ensures b w.is_uncovered-is
      | else-is_new w ↦ uncovered-old sorted c.requires i c.loop-i.past c.loop-i.is_uncovered c.loop-i-test.true reached (OnFalse_at w.if-is_new.false c.is_new-is_new.ensures.alike) b w.is_uncovered-is
    ] in
    let new : (c.is_new-is_new.result ≡ true) ↔ IsNew sorted i = new_is sorted i c.is_new-is_new.result c.is_new-is_new.ensures.new c.is_new-is_new.ensures.alike in
    let is : (x ≡ true) ↔ ((IsTrue c.args.new → IsTrue c.is_new-is_new.result) × (IsTrue c.args.uncovered → IsTrue b)) = elim c.if-passes.branch [
      | then-passes w ↦ both_true x c.passes.result w.passes-then-passes.result w.push-is w.if-passes.true c.passes.ensures w.passes-then-passes.ensures
      | else-passes w ↦ first_false x c.passes.result w.push-is w.if-passes.false c.passes.ensures
    ] in
    let right : (x ≡ true) ↔ ((IsTrue c.args.new → IsNew sorted i) × (IsTrue c.args.uncovered → IsUncovered sorted i)) = (
      (λ t. let h = is.0 t in ((λ a. new.0 (h.0 a)), (λ a. open'.0 (h.1 a)))),
      (λ h. is.1 ((λ a. new.1 (h.0 a)), (λ a. open'.1 (h.1 a)))),
    ) in
    record {
      number = omega (arith, ap (λ (bs : List Bool). length bs) c.in_ok-push.ensures.items, length-append c.loop-i.answers.items (x ∷ []), c.loop-i.invariant.number);
      answered = λ k h. subst (λ (bs : List Bool). (get_or bs k false ≡ true) ↔ ((IsTrue c.args.new → IsNew sorted k) × (IsTrue c.args.uncovered → IsUncovered sorted k))) (sym c.in_ok-push.ensures.items)
          (answered-push (λ n. (IsTrue c.args.new → IsNew sorted n) × (IsTrue c.args.uncovered → IsUncovered sorted n)) c.loop-i.answers.items x i c.loop-i.invariant.number c.loop-i.invariant.answered right k h);
      reached = IsReached-next sorted c.requires i c.loop-i.past c.loop-i.is_uncovered c.loop-i-test.true reached c.from-far.result c.max-past.result c.from-far.ensures c.max-past.ensures b open';
    }
