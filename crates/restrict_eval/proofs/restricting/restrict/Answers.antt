use Rattle.std.proofs.Common.{◌≡◌, ◌∙◌, ◌<◌, ℕ, List, map, length, ap, sym, subst}
use Rattle.std.specs.List.{All}
use Rattle.algebra.specs.declared.node.Node.{Node}
use Rattle.algebra.specs.declared.output.PlanOut.{PlanOut}
use Rattle.algebra.specs.Mapping.{renumbered}
use Rattle.algebra.specs.OutputLaws.{outputs_there, outputs_kept, mapped-outputs}
use Rattle.algebra.specs.Plans.{Parts, AreOutputs}
use Rattle.restrict_eval.specs.Restricting.{AreConditional}
use Rattle.restrict_eval.proofs.Outputs.{outputs_below, restricted_after, distinct_after, merged_after, rebuilt_after}
use Rattle.restrict_eval.proofs.restricting.restrict.Goals as goal

pub rebuilt-requires-clause-there : goal.rebuilt-requires-clause-there
rebuilt-requires-clause-there c =
    let outs = c.into_parts-old.result.2.items in
    let old = c.into_parts-old.result.0 in
    let are : AreOutputs old outs =
    subst (λ (nodes : List Node). AreOutputs nodes outs) (sym c.into_parts-old.ensures.nodes)
    (subst (λ (outs : List PlanOut). AreOutputs c.args.plan.nodes outs) (sym c.into_parts-old.ensures.outputs) c.into_parts-old.ensures.valid) in
    subst (λ (os : List PlanOut). All (λ (out : PlanOut). out.node < length old) os) (sym c.as_slice.ensures.value) (outputs_below old outs are)

pub outputs_shown-requires : goal.outputs_shown-requires
outputs_shown-requires c =
    let outs = c.into_parts-old.result.2.items in
    let old = c.into_parts-old.result.0 in
    let are : AreOutputs old outs =
    subst (λ (nodes : List Node). AreOutputs nodes outs) (sym c.into_parts-old.ensures.nodes)
    (subst (λ (outs : List PlanOut). AreOutputs c.args.plan.nodes outs) (sym c.into_parts-old.ensures.outputs) c.into_parts-old.ensures.valid) in
    record { there = subst (λ (to : List ℕ). All (λ out. out.node < length to) outs) (sym c.as_slice-2.ensures.value) (outputs_there _ _ _ c.in_ok-nodes.ensures.rebuilt.mapped outs are) }

pub new-requires : goal.new-requires
new-requires c =
    let outs = c.into_parts-old.result.2.items in
    let old = c.into_parts-old.result.0 in
    let are : AreOutputs old outs =
    subst (λ (nodes : List Node). AreOutputs nodes outs) (sym c.into_parts-old.ensures.nodes)
    (subst (λ (outs : List PlanOut). AreOutputs c.args.plan.nodes outs) (sym c.into_parts-old.ensures.outputs) c.into_parts-old.ensures.valid) in
    let is : c.in_ok-outputs.outputs.items ≡ map (renumbered c.rebuilt.new.to.items) outs =
    c.in_ok-outputs.ensures ∙ ap (λ (to : List ℕ). map (renumbered to) outs) c.as_slice-2.ensures.value in
    record { outputs = subst (λ (new : List PlanOut). AreOutputs c.in_ok-nodes.nodes new) (sym is) (outputs_kept _ _ _ c.in_ok-nodes.ensures.rebuilt.mapped outs are) }

pub returns-clause-keeps : goal.returns-clause-keeps
returns-clause-keeps c =
    let outs = c.into_parts-old.result.2.items in
    let old = c.into_parts-old.result.0 in
    let are : AreOutputs old c.args.plan.outputs =
    subst (λ (nodes : List Node). AreOutputs nodes c.args.plan.outputs) (sym c.into_parts-old.ensures.nodes) c.into_parts-old.ensures.valid in
    let is : c.in_ok-outputs.outputs.items ≡ map (renumbered c.rebuilt.new.to.items) outs =
    c.in_ok-outputs.ensures ∙ ap (λ (to : List ℕ). map (renumbered to) outs) c.as_slice-2.ensures.value in
    mapped-outputs old c.in_ok-nodes.nodes c.rebuilt.new.to.items c.in_ok-nodes.ensures.rebuilt.mapped c.args.plan c.new.result
    (sym c.into_parts-old.ensures.nodes)
    (ap (λ (p : Parts). p.nodes) c.new.ensures)
    (ap (λ (p : Parts). p.lists) c.new.ensures ∙ c.into_parts-old.ensures.tables)
    are
    (ap (λ (p : Parts). p.outputs) c.new.ensures ∙ (is ∙ ap (map (renumbered c.rebuilt.new.to.items)) c.into_parts-old.ensures.outputs))

pub returns-clause-conditional : goal.returns-clause-conditional
returns-clause-conditional c = subst (λ (nodes : List Node). AreConditional nodes) (sym (ap (λ (p : Parts). p.nodes) c.new.ensures)) c.in_ok-nodes.ensures.conditional

pub returns-clause-restricted : goal.returns-clause-restricted
returns-clause-restricted c =
    let outs = c.into_parts-old.result.2.items in
    let old = c.into_parts-old.result.0 in
    let to = c.rebuilt.new.to.items in
    let are : AreOutputs old outs =
    subst (λ (nodes : List Node). AreOutputs nodes outs) (sym c.into_parts-old.ensures.nodes)
    (subst (λ (outs : List PlanOut). AreOutputs c.args.plan.nodes outs) (sym c.into_parts-old.ensures.outputs) c.into_parts-old.ensures.valid) in
    let is : c.new.result.outputs ≡ map (renumbered to) outs =
    ap (λ (p : Parts). p.outputs) c.new.ensures ∙ (c.in_ok-outputs.ensures ∙ ap (λ (to : List ℕ). map (renumbered to) outs) c.as_slice-2.ensures.value) in
    restricted_after c.args.plan c.new.result old c.in_ok-nodes.nodes outs c.as_slice.result.now to c.into_parts-old.ensures.nodes c.into_parts-old.ensures.outputs c.as_slice.ensures.value
    (ap (λ (p : Parts). p.nodes) c.new.ensures) is c.in_ok-nodes.ensures.plan are c.in_ok-nodes.ensures.rebuilt

pub returns-clause-distinct : goal.returns-clause-distinct
returns-clause-distinct c =
    let outs = c.into_parts-old.result.2.items in
    let old = c.into_parts-old.result.0 in
    let to = c.rebuilt.new.to.items in
    let are : AreOutputs old outs =
    subst (λ (nodes : List Node). AreOutputs nodes outs) (sym c.into_parts-old.ensures.nodes)
    (subst (λ (outs : List PlanOut). AreOutputs c.args.plan.nodes outs) (sym c.into_parts-old.ensures.outputs) c.into_parts-old.ensures.valid) in
    let is : c.new.result.outputs ≡ map (renumbered to) outs =
    ap (λ (p : Parts). p.outputs) c.new.ensures ∙ (c.in_ok-outputs.ensures ∙ ap (λ (to : List ℕ). map (renumbered to) outs) c.as_slice-2.ensures.value) in
    distinct_after c.args.plan c.new.result old c.in_ok-nodes.nodes outs c.as_slice.result.now to c.into_parts-old.ensures.nodes c.into_parts-old.ensures.outputs c.as_slice.ensures.value
    (ap (λ (p : Parts). p.nodes) c.new.ensures) is c.in_ok-nodes.ensures.plan are c.in_ok-nodes.ensures.rebuilt

pub returns-clause-merged : goal.returns-clause-merged
returns-clause-merged c =
    let outs = c.into_parts-old.result.2.items in
    let old = c.into_parts-old.result.0 in
    let to = c.rebuilt.new.to.items in
    let are : AreOutputs old outs =
    subst (λ (nodes : List Node). AreOutputs nodes outs) (sym c.into_parts-old.ensures.nodes)
    (subst (λ (outs : List PlanOut). AreOutputs c.args.plan.nodes outs) (sym c.into_parts-old.ensures.outputs) c.into_parts-old.ensures.valid) in
    let is : c.new.result.outputs ≡ map (renumbered to) outs =
    ap (λ (p : Parts). p.outputs) c.new.ensures ∙ (c.in_ok-outputs.ensures ∙ ap (λ (to : List ℕ). map (renumbered to) outs) c.as_slice-2.ensures.value) in
    merged_after c.args.plan c.new.result old c.in_ok-nodes.nodes outs c.as_slice.result.now to c.into_parts-old.ensures.nodes c.into_parts-old.ensures.outputs c.as_slice.ensures.value
    (ap (λ (p : Parts). p.nodes) c.new.ensures) is c.in_ok-nodes.ensures.plan are c.in_ok-nodes.ensures.rebuilt

pub returns-clause-rebuilt : goal.returns-clause-rebuilt
returns-clause-rebuilt c =
    let outs = c.into_parts-old.result.2.items in
    let old = c.into_parts-old.result.0 in
    let to = c.rebuilt.new.to.items in
    let are : AreOutputs old outs =
    subst (λ (nodes : List Node). AreOutputs nodes outs) (sym c.into_parts-old.ensures.nodes)
    (subst (λ (outs : List PlanOut). AreOutputs c.args.plan.nodes outs) (sym c.into_parts-old.ensures.outputs) c.into_parts-old.ensures.valid) in
    let is : c.new.result.outputs ≡ map (renumbered to) outs =
    ap (λ (p : Parts). p.outputs) c.new.ensures ∙ (c.in_ok-outputs.ensures ∙ ap (λ (to : List ℕ). map (renumbered to) outs) c.as_slice-2.ensures.value) in (
      to,
      rebuilt_after c.args.plan c.new.result old c.in_ok-nodes.nodes outs c.as_slice.result.now to c.into_parts-old.ensures.nodes c.into_parts-old.ensures.outputs c.as_slice.ensures.value
          (ap (λ (p : Parts). p.nodes) c.new.ensures) is c.in_ok-nodes.ensures.plan are c.in_ok-nodes.ensures.rebuilt,
    )
