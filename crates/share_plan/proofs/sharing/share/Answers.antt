use Rattle.std.proofs.Common.{◌≡◌, ◌∙◌, ◌<◌, ℕ, List, map, length, ap, sym, subst}
use Rattle.std.specs.List.{All}
use Rattle.algebra.specs.declared.node.Node.{Node}
use Rattle.algebra.specs.declared.output.PlanOut.{PlanOut}
use Rattle.algebra.specs.Mapping.{renumbered}
use Rattle.algebra.specs.Plans.{Parts, AreOutputs}
use Rattle.share_plan.specs.Putting.{IsOpenAt}
use Rattle.share_plan.specs.Renumbering.{IsRenumbered}
use Rattle.share_plan.specs.Sharing.{AreDistinct, AreMerged}
use Rattle.share_plan.proofs.Outputs.{outputs_there, outputs_kept, outputs_show}
use Rattle.share_plan.proofs.sharing.share.Goals as goal

outputs_open : (nodes : List Node) (outs : List PlanOut) → AreOutputs nodes outs → All (λ out. IsOpenAt nodes out.node) outs
outputs_open nodes outs are k d below = (are.each k d below).shown

pub outputs_shown-requires : goal.outputs_shown-requires
outputs_shown-requires c =
    let outs = c.into_parts-old.result.2.items in
    let old = c.into_parts-old.result.0 in
    let are : AreOutputs old outs =
    subst (λ (nodes : List Node). AreOutputs nodes outs) (sym c.into_parts-old.ensures.nodes)
    (subst (λ (outs : List PlanOut). AreOutputs c.args.plan.nodes outs) (sym c.into_parts-old.ensures.outputs) c.into_parts-old.ensures.valid) in
    record { there = subst (λ (to : List ℕ). All (λ out. out.node < length to) outs) (sym c.as_slice.ensures.value) (outputs_there (IsOpenAt old) _ _ _ c.in_ok-shared.ensures.mapped outs are) }

pub new-requires : goal.new-requires
new-requires c =
    let outs = c.into_parts-old.result.2.items in
    let old = c.into_parts-old.result.0 in
    let are : AreOutputs old outs =
    subst (λ (nodes : List Node). AreOutputs nodes outs) (sym c.into_parts-old.ensures.nodes)
    (subst (λ (outs : List PlanOut). AreOutputs c.args.plan.nodes outs) (sym c.into_parts-old.ensures.outputs) c.into_parts-old.ensures.valid) in
    let is : c.in_ok-outputs.outputs.items ≡ map (renumbered c.shared_nodes.new.to.items) outs =
    c.in_ok-outputs.ensures ∙ ap (λ (to : List ℕ). map (renumbered to) outs) c.as_slice.ensures.value in
    let kept : AreOutputs c.in_ok-shared.shared.items c.in_ok-outputs.outputs.items =
    subst (λ (new : List PlanOut). AreOutputs c.in_ok-shared.shared.items new) (sym is) (outputs_kept (IsOpenAt old) _ _ _ c.in_ok-shared.ensures.mapped outs are (outputs_open old outs are)) in
    record { outputs = subst (λ (nodes : List Node). AreOutputs nodes c.in_ok-outputs.outputs.items) (sym c.in_ok-nodes.ensures) kept }

pub returns-clause-keeps : goal.returns-clause-keeps
returns-clause-keeps c =
    let outs = c.into_parts-old.result.2.items in
    let old = c.into_parts-old.result.0 in
    let to = c.shared_nodes.new.to.items in
    let are : AreOutputs old c.args.plan.outputs =
    subst (λ (nodes : List Node). AreOutputs nodes c.args.plan.outputs) (sym c.into_parts-old.ensures.nodes) c.into_parts-old.ensures.valid in
    let is : c.in_ok-outputs.outputs.items ≡ map (renumbered to) outs =
    c.in_ok-outputs.ensures ∙ ap (λ (to : List ℕ). map (renumbered to) outs) c.as_slice.ensures.value in
    outputs_show (IsOpenAt old) old c.in_ok-shared.shared.items to c.in_ok-shared.ensures.mapped c.args.plan c.new.result
    (sym c.into_parts-old.ensures.nodes)
    (ap (λ (p : Parts). p.nodes) c.new.ensures ∙ c.in_ok-nodes.ensures)
    (ap (λ (p : Parts). p.lists) c.new.ensures ∙ c.into_parts-old.ensures.tables)
    are (outputs_open old c.args.plan.outputs are)
    (ap (λ (p : Parts). p.outputs) c.new.ensures ∙ (is ∙ ap (map (renumbered to)) c.into_parts-old.ensures.outputs))

pub returns-clause-distinct : goal.returns-clause-distinct
returns-clause-distinct c =
    subst (λ (nodes : List Node). AreDistinct nodes) (sym (ap (λ (p : Parts). p.nodes) c.new.ensures ∙ c.in_ok-nodes.ensures)) c.in_ok-shared.ensures.distinct

pub returns-clause-merged : goal.returns-clause-merged
returns-clause-merged c =
    subst (λ (nodes : List Node). AreMerged nodes) (sym (ap (λ (p : Parts). p.nodes) c.new.ensures ∙ c.in_ok-nodes.ensures)) c.in_ok-shared.ensures.merged

pub returns-clause-renumbered : goal.returns-clause-renumbered
returns-clause-renumbered c =
    subst (λ (nodes : List Node). IsRenumbered nodes c.new.result.nodes) c.into_parts-old.ensures.nodes
    (subst (λ (nodes : List Node). IsRenumbered c.into_parts-old.result.0 nodes) (sym (ap (λ (p : Parts). p.nodes) c.new.ensures ∙ c.in_ok-nodes.ensures)) c.in_ok-shared.ensures.renumbered)
