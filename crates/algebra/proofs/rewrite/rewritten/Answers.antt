use Rattle.std.proofs.Common.{◌≡◌, ◌∙◌, ◌<◌, ℕ, List, map, length, ap, sym, subst}
use Rattle.std.specs.List.{All}
use Rattle.algebra.specs.declared.node.Node.{Node}
use Rattle.algebra.specs.declared.output.PlanOut.{PlanOut}
use Rattle.algebra.specs.Mapping.{renumbered}
use Rattle.algebra.specs.OutputLaws.{outputs_there, outputs_kept, mapped-outputs}
use Rattle.algebra.specs.Plans.{Parts, AreOutputs}
use Rattle.algebra.proofs.rewrite.rewritten.Goals as goal

pub outputs_renumbered-requires : goal.outputs_renumbered-requires
outputs_renumbered-requires g c =
    let outs = c.into_parts-old.result.2.items in
    let old = c.into_parts-old.result.0 in
    let are : AreOutputs old outs =
    subst (λ (nodes : List Node). AreOutputs nodes outs) (sym c.into_parts-old.ensures.nodes)
    (subst (λ (outs : List PlanOut). AreOutputs c.args.plan.nodes outs) (sym c.into_parts-old.ensures.outputs) c.into_parts-old.ensures.valid) in
    record { there = subst (λ (to : List ℕ). All (λ out. out.node < length to) outs) (sym c.as_slice.ensures.value) (outputs_there _ _ _ c.in_ok-nodes.ensures.mapped outs are) }

pub new-requires : goal.new-requires
new-requires g c =
    let outs = c.into_parts-old.result.2.items in
    let old = c.into_parts-old.result.0 in
    let are : AreOutputs old outs =
    subst (λ (nodes : List Node). AreOutputs nodes outs) (sym c.into_parts-old.ensures.nodes)
    (subst (λ (outs : List PlanOut). AreOutputs c.args.plan.nodes outs) (sym c.into_parts-old.ensures.outputs) c.into_parts-old.ensures.valid) in
    let is : c.in_ok-outputs.outputs.items ≡ map (renumbered c.rebuilt.new.to.items) outs =
    c.in_ok-outputs.ensures ∙ ap (λ (to : List ℕ). map (renumbered to) outs) c.as_slice.ensures.value in
    record { outputs = subst (λ (new : List PlanOut). AreOutputs c.in_ok-nodes.nodes new) (sym is) (outputs_kept _ _ _ c.in_ok-nodes.ensures.mapped outs are) }

pub returns-clause-keeps : goal.returns-clause-keeps
returns-clause-keeps g c =
    let outs = c.into_parts-old.result.2.items in
    let old = c.into_parts-old.result.0 in
    let are : AreOutputs old c.args.plan.outputs =
    subst (λ (nodes : List Node). AreOutputs nodes c.args.plan.outputs) (sym c.into_parts-old.ensures.nodes) c.into_parts-old.ensures.valid in
    let is : c.in_ok-outputs.outputs.items ≡ map (renumbered c.rebuilt.new.to.items) outs =
    c.in_ok-outputs.ensures ∙ ap (λ (to : List ℕ). map (renumbered to) outs) c.as_slice.ensures.value in
    mapped-outputs old c.in_ok-nodes.nodes c.rebuilt.new.to.items c.in_ok-nodes.ensures.mapped c.args.plan c.new.result
    (sym c.into_parts-old.ensures.nodes)
    (ap (λ (p : Parts). p.nodes) c.new.ensures)
    (ap (λ (p : Parts). p.lists) c.new.ensures ∙ c.into_parts-old.ensures.tables)
    are
    (ap (λ (p : Parts). p.outputs) c.new.ensures ∙ (is ∙ ap (map (renumbered c.rebuilt.new.to.items)) c.into_parts-old.ensures.outputs))
