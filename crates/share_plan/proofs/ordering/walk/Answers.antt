use Rattle.std.proofs.Common.{◌≡◌, ◌∙◌, ℕ, inl, inr, List, [], ◌∷◌, ◌++◌, ap, sym, subst, arith, get_or, false, true≢false}
use Rattle.std.proofs.lemmas.List.{get_or_default}
use Rattle.std.specs.List.{Contains}
use Rattle.std.proofs.lemmas.List.Elements.{Contains-push}
use Rattle.algebra.specs.Items.{output_nodes}
use Rattle.share_plan.specs.Walks.{IsWay}
use Rattle.share_plan.proofs.Walking.{way-one}
use Rattle.share_plan.proofs.ordering.walk.Goals as goal

pub way-init : goal.way-init
way-init c =
    let plan = c.args.plan.now in
    let order = c.args.order.now in
    let begun : c.push.new.self.items ≡ c.args.out ∷ [] = c.in_ok-push.ensures.items ∙ ap (λ (xs : List ℕ). xs ++ c.args.out ∷ []) c.new-way.ensures.items in
    let unmarked : get_or order.marks.items c.args.out false ≡ false =
    get_or_default order.marks.items c.args.out false c.index.result.now (omega (arith, c.requires.there, c.requires.walked.long)) ∙ (sym c.index.ensures ∙ c.if-index.false) in
    record {
      walked = c.requires.walked;
      way = subst (IsWay plan.nodes (output_nodes plan) order.numbers.items order.marks.items) (sym begun)
          (way-one plan.nodes (output_nodes plan) order.numbers.items order.marks.items c.requires.walked c.args.out c.requires.there c.requires.shown (λ marked. true≢false (sym marked ∙ unmarked)));
      more = λ i marked. marked;
      on = inl (subst (λ (way : List ℕ). Contains way c.args.out) (sym begun) (Contains-push [] c.args.out));
    }

pub way-preserved : goal.way-preserved
way-preserved c = record {
  walked = c.in_ok-step.ensures.walked;
  way = c.in_ok-step.ensures.way;
  more = λ i marked. c.in_ok-step.ensures.more i (c.way.invariant.more i marked);
  on = elim c.way.invariant.on [
    | inl h ↦ c.in_ok-step.ensures.on c.args.out (subst (λ (way : List ℕ). Contains way c.args.out) c.in-Some.ensures.items h)
    | inr h ↦ inr (c.in_ok-step.ensures.more c.args.out h)
  ];
}
