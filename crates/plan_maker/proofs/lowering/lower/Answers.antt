use Rattle.std.proofs.Common.{arith, ◌≡◌, ◌∙◌, ◌+◌, ◌*◌, ◌≤◌, List, length, map, ap, ap₂, sym, subst, refl}
use Rattle.std.specs.List.{All, sum_by}
use Rattle.std.proofs.lemmas.List.Elements.{All-nil}
use Rattle.aql_typed.specs.declared.tree.Output.{Output}
use Rattle.aql_typed.specs.declared.tree.TypedView.{TypedView}
use Rattle.aql_typed.specs.Fitting.{widths_of}
use Rattle.aql_typed.specs.Meaning.{meanings}
use Rattle.aql_typed.specs.Views.{body_of}
use Rattle.algebra.specs.declared.output.PlanOut.{PlanOut}
use Rattle.algebra.specs.Plans.{Parts, AreOutputs}
use Rattle.plan_maker.specs.Grounds.{IsBase, output_shown}
use Rattle.plan_maker.specs.Lowered.{IsLoweredForm, query_size}
use Rattle.plan_maker.proofs.Bases.{outputs_valid, is_lowered}
use Rattle.plan_maker.proofs.lowering.lower.Goals as goal

pub new-requires : goal.new-requires
new-requires c =
    let nodes = c.views_lowered.new.nodes in
    let below = c.in_ok-below.below in
    let base : IsBase nodes below (widths_of (map body_of c.args.typed.0)) (λ lists doc. meanings lists doc (map body_of c.args.typed.0)) =
    subst (λ (vs : List TypedView). IsBase nodes below (widths_of (map body_of vs)) (λ lists doc. meanings lists doc (map body_of vs))) (c.as_slice.ensures.value ∙ c.into_parts-views.ensures.views) c.in_ok-below.ensures.base in
    let shown : c.in_ok-shown.shown.items ≡ map (output_shown c.args.typed.0 below) c.args.typed.1.1 =
    c.in_ok-shown.ensures ∙ ap₂ (λ (vs : List TypedView) (outs : List Output). map (output_shown vs below) outs) (c.as_slice-2.ensures.value ∙ c.into_parts-views.ensures.views)
    (c.as_slice-3.ensures.value ∙ c.into_parts-views.ensures.outputs) in
    record {
      outputs = subst (λ (outs : List PlanOut). AreOutputs nodes outs) (sym shown)
          (outputs_valid nodes below c.args.typed.0 c.into_parts-views.ensures.valid_views base c.args.typed.1.1 c.into_parts-views.ensures.valid_outputs);
    }

pub returns : goal.returns
returns c =
    let nodes = c.views_lowered.new.nodes in
    let below = c.in_ok-below.below in
    let base : IsBase nodes below (widths_of (map body_of c.args.typed.0)) (λ lists doc. meanings lists doc (map body_of c.args.typed.0)) =
    subst (λ (vs : List TypedView). IsBase nodes below (widths_of (map body_of vs)) (λ lists doc. meanings lists doc (map body_of vs))) (c.as_slice.ensures.value ∙ c.into_parts-views.ensures.views) c.in_ok-below.ensures.base in
    let shown : c.in_ok-shown.shown.items ≡ map (output_shown c.args.typed.0 below) c.args.typed.1.1 =
    c.in_ok-shown.ensures ∙ ap₂ (λ (vs : List TypedView) (outs : List Output). map (output_shown vs below) outs) (c.as_slice-2.ensures.value ∙ c.into_parts-views.ensures.views)
    (c.as_slice-3.ensures.value ∙ c.into_parts-views.ensures.outputs) in
    let forms : All IsLoweredForm nodes = c.in_ok-below.ensures.forms (subst (All IsLoweredForm) (sym c.new-nodes.ensures) (All-nil IsLoweredForm)) in
    let sizes : sum_by query_size (map body_of c.as_slice.result.now) ≡ sum_by query_size (map body_of c.args.typed.0) =
    ap (λ (vs : List TypedView). sum_by query_size (map body_of vs)) (c.as_slice.ensures.value ∙ c.into_parts-views.ensures.views) in
    let few : length nodes ≤ 1 + 8 * sum_by query_size (map body_of c.args.typed.0) = omega (arith, sizes, ap length c.new-nodes.ensures, c.in_ok-below.ensures.few) in
    record {
      lowered = is_lowered nodes below c.args.typed.0 c.into_parts-views.ensures.valid_views base c.args.typed c.new.result refl
          (ap (λ (p : Parts). p.lists) c.new.ensures ∙ c.into_parts-views.ensures.tables) (ap (λ (p : Parts). p.nodes) c.new.ensures)
          c.into_parts-views.ensures.valid_outputs (ap (λ (p : Parts). p.outputs) c.new.ensures ∙ shown) forms few;
    }
