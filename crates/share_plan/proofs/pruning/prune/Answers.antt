use Rattle.std.proofs.Common.{◌≡◌, ◌∙◌, ℕ, ◌<◌, List, length, map, refl, ap, sym, subst}
use Rattle.std.specs.List.{All}
use Rattle.algebra.specs.declared.node.Node.{Node}
use Rattle.algebra.specs.Mapping.{renumbered}
use Rattle.algebra.specs.Nodes.{IsPlan}
use Rattle.algebra.specs.Plans.{Parts, AreOutputs}
use Rattle.share_plan.specs.Marks.{IsMarked}
use Rattle.share_plan.specs.Renumbering.{IsRenumbered}
use Rattle.share_plan.specs.Sharing.{AreDistinct, AreMerged}
use Rattle.share_plan.specs.Walks.{AreReady}
use Rattle.share_plan.proofs.Keeping.{kept_of, pruned-distinct, pruned-merged, pruned-renumbered, pruned-dropped, pruned-read, arranged-order}
use Rattle.share_plan.proofs.Outputs.{outputs_there, outputs_kept, outputs_show}
use Rattle.share_plan.proofs.pruning.prune.Goals as goal

pub kept_nodes-requires-clause-ready : goal.kept_nodes-requires-clause-ready
kept_nodes-requires-clause-ready c =
    subst (λ (nodes : List Node). AreReady nodes c.as_slice.result.now) (sym c.into_parts-old.ensures.nodes)
    (subst (AreReady c.args.plan.nodes) (sym c.as_slice.ensures.value) c.in_ok-order.ensures.walked.ready)

pub outputs_shown-requires : goal.outputs_shown-requires
outputs_shown-requires c =
    let kept = kept_of c.args.plan c.in_ok-order.order.numbers.items c.kept_nodes.new.to.items c.in_ok-order.order.marks.items c.in_ok-nodes.nodes c.as_slice.result.now c.into_parts-old.result.0
    c.in_ok-order.ensures c.into_parts-old.ensures.valid c.as_slice.ensures.value c.into_parts-old.ensures.nodes c.in_ok-nodes.ensures.arranged in
    record {
      there = subst (λ (to : List ℕ). All (λ out. out.node < length to) c.into_parts-old.result.2.items) (sym c.as_slice-2.ensures.value)
          (subst (All (λ out. out.node < length c.kept_nodes.new.to.items)) (sym c.into_parts-old.ensures.outputs)
          (outputs_there (IsMarked c.in_ok-order.order.marks.items) c.args.plan.nodes c.in_ok-nodes.nodes c.kept_nodes.new.to.items kept.pruned.mapped c.args.plan.outputs kept.marked.valid));
    }

pub new-requires : goal.new-requires
new-requires c =
    let kept = kept_of c.args.plan c.in_ok-order.order.numbers.items c.kept_nodes.new.to.items c.in_ok-order.order.marks.items c.in_ok-nodes.nodes c.as_slice.result.now c.into_parts-old.result.0
    c.in_ok-order.ensures c.into_parts-old.ensures.valid c.as_slice.ensures.value c.into_parts-old.ensures.nodes c.in_ok-nodes.ensures.arranged in
    let is : c.in_ok-outputs.outputs.items ≡ map (renumbered c.kept_nodes.new.to.items) c.args.plan.outputs =
    c.in_ok-outputs.ensures
    ∙ (ap (λ (to : List ℕ). map (renumbered to) c.into_parts-old.result.2.items) c.as_slice-2.ensures.value ∙ ap (map (renumbered c.kept_nodes.new.to.items)) c.into_parts-old.ensures.outputs) in
    record {
      outputs = subst (AreOutputs c.in_ok-nodes.nodes) (sym is)
          (outputs_kept (IsMarked c.in_ok-order.order.marks.items) c.args.plan.nodes c.in_ok-nodes.nodes c.kept_nodes.new.to.items kept.pruned.mapped c.args.plan.outputs kept.marked.valid kept.marked.shown);
    }

pub returns-clause-keeps : goal.returns-clause-keeps
returns-clause-keeps c =
    let kept = kept_of c.args.plan c.in_ok-order.order.numbers.items c.kept_nodes.new.to.items c.in_ok-order.order.marks.items c.in_ok-nodes.nodes c.as_slice.result.now c.into_parts-old.result.0
    c.in_ok-order.ensures c.into_parts-old.ensures.valid c.as_slice.ensures.value c.into_parts-old.ensures.nodes c.in_ok-nodes.ensures.arranged in
    let is : c.in_ok-outputs.outputs.items ≡ map (renumbered c.kept_nodes.new.to.items) c.args.plan.outputs =
    c.in_ok-outputs.ensures
    ∙ (ap (λ (to : List ℕ). map (renumbered to) c.into_parts-old.result.2.items) c.as_slice-2.ensures.value ∙ ap (map (renumbered c.kept_nodes.new.to.items)) c.into_parts-old.ensures.outputs) in
    outputs_show (IsMarked c.in_ok-order.order.marks.items) c.args.plan.nodes c.in_ok-nodes.nodes c.kept_nodes.new.to.items kept.pruned.mapped c.args.plan c.new.result refl
    (ap (λ (p : Parts). p.nodes) c.new.ensures)
    (ap (λ (p : Parts). p.lists) c.new.ensures ∙ c.into_parts-old.ensures.tables)
    kept.marked.valid kept.marked.shown (ap (λ (p : Parts). p.outputs) c.new.ensures ∙ is)

pub returns-clause-read : goal.returns-clause-read
returns-clause-read c =
    let kept = kept_of c.args.plan c.in_ok-order.order.numbers.items c.kept_nodes.new.to.items c.in_ok-order.order.marks.items c.in_ok-nodes.nodes c.as_slice.result.now c.into_parts-old.result.0
    c.in_ok-order.ensures c.into_parts-old.ensures.valid c.as_slice.ensures.value c.into_parts-old.ensures.nodes c.in_ok-nodes.ensures.arranged in
    let plan : IsPlan c.args.plan.nodes = subst IsPlan c.into_parts-old.ensures.nodes c.in_ok-nodes.ensures.plan in
    let is : c.in_ok-outputs.outputs.items ≡ map (renumbered c.kept_nodes.new.to.items) c.args.plan.outputs =
    c.in_ok-outputs.ensures
    ∙ (ap (λ (to : List ℕ). map (renumbered to) c.into_parts-old.result.2.items) c.as_slice-2.ensures.value ∙ ap (map (renumbered c.kept_nodes.new.to.items)) c.into_parts-old.ensures.outputs) in
    let nodes : c.new.result.nodes ≡ c.in_ok-nodes.nodes = ap (λ (p : Parts). p.nodes) c.new.ensures in
    pruned-read c.in_ok-order.order.marks.items c.args.plan.nodes c.in_ok-nodes.nodes c.kept_nodes.new.to.items kept.pruned plan kept.marked.closed kept.marked.long c.args.plan.outputs kept.marked.founded c.new.result nodes
    (ap (λ (p : Parts). p.outputs) c.new.ensures ∙ is)

pub returns-clause-ordered : goal.returns-clause-ordered
returns-clause-ordered c =
    let kept = kept_of c.args.plan c.in_ok-order.order.numbers.items c.kept_nodes.new.to.items c.in_ok-order.order.marks.items c.in_ok-nodes.nodes c.as_slice.result.now c.into_parts-old.result.0
    c.in_ok-order.ensures c.into_parts-old.ensures.valid c.as_slice.ensures.value c.into_parts-old.ensures.nodes c.in_ok-nodes.ensures.arranged in
    let is : c.in_ok-outputs.outputs.items ≡ map (renumbered c.kept_nodes.new.to.items) c.args.plan.outputs =
    c.in_ok-outputs.ensures
    ∙ (ap (λ (to : List ℕ). map (renumbered to) c.into_parts-old.result.2.items) c.as_slice-2.ensures.value ∙ ap (map (renumbered c.kept_nodes.new.to.items)) c.into_parts-old.ensures.outputs) in
    let nodes : c.new.result.nodes ≡ c.in_ok-nodes.nodes = ap (λ (p : Parts). p.nodes) c.new.ensures in
    arranged-order c.args.plan c.in_ok-nodes.nodes c.in_ok-order.order.numbers.items c.kept_nodes.new.to.items c.in_ok-order.order.marks.items kept.is kept.arranged c.new.result nodes
    (ap (λ (p : Parts). p.outputs) c.new.ensures ∙ is)

pub returns-clause-renumbered : goal.returns-clause-renumbered
returns-clause-renumbered c =
    let kept = kept_of c.args.plan c.in_ok-order.order.numbers.items c.kept_nodes.new.to.items c.in_ok-order.order.marks.items c.in_ok-nodes.nodes c.as_slice.result.now c.into_parts-old.result.0
    c.in_ok-order.ensures c.into_parts-old.ensures.valid c.as_slice.ensures.value c.into_parts-old.ensures.nodes c.in_ok-nodes.ensures.arranged in
    let plan : IsPlan c.args.plan.nodes = subst IsPlan c.into_parts-old.ensures.nodes c.in_ok-nodes.ensures.plan in
    let nodes : c.new.result.nodes ≡ c.in_ok-nodes.nodes = ap (λ (p : Parts). p.nodes) c.new.ensures in
    subst (IsRenumbered c.args.plan.nodes) (sym nodes) (pruned-renumbered c.in_ok-order.order.marks.items c.args.plan.nodes c.in_ok-nodes.nodes c.kept_nodes.new.to.items kept.pruned plan kept.marked.closed kept.marked.long)

pub returns-clause-dropped : goal.returns-clause-dropped
returns-clause-dropped c =
    let kept = kept_of c.args.plan c.in_ok-order.order.numbers.items c.kept_nodes.new.to.items c.in_ok-order.order.marks.items c.in_ok-nodes.nodes c.as_slice.result.now c.into_parts-old.result.0
    c.in_ok-order.ensures c.into_parts-old.ensures.valid c.as_slice.ensures.value c.into_parts-old.ensures.nodes c.in_ok-nodes.ensures.arranged in
    let plan : IsPlan c.args.plan.nodes = subst IsPlan c.into_parts-old.ensures.nodes c.in_ok-nodes.ensures.plan in
    let is : c.in_ok-outputs.outputs.items ≡ map (renumbered c.kept_nodes.new.to.items) c.args.plan.outputs =
    c.in_ok-outputs.ensures
    ∙ (ap (λ (to : List ℕ). map (renumbered to) c.into_parts-old.result.2.items) c.as_slice-2.ensures.value ∙ ap (map (renumbered c.kept_nodes.new.to.items)) c.into_parts-old.ensures.outputs) in
    let nodes : c.new.result.nodes ≡ c.in_ok-nodes.nodes = ap (λ (p : Parts). p.nodes) c.new.ensures in
    pruned-dropped c.in_ok-order.order.marks.items c.args.plan.nodes c.in_ok-nodes.nodes c.kept_nodes.new.to.items kept.pruned plan kept.marked.closed kept.marked.long c.args.plan.outputs c.new.result.outputs c.new.result.nodes kept.marked.shown nodes
    (ap (λ (p : Parts). p.outputs) c.new.ensures ∙ is)

pub returns-clause-distinct : goal.returns-clause-distinct
returns-clause-distinct c =
    let kept = kept_of c.args.plan c.in_ok-order.order.numbers.items c.kept_nodes.new.to.items c.in_ok-order.order.marks.items c.in_ok-nodes.nodes c.as_slice.result.now c.into_parts-old.result.0
    c.in_ok-order.ensures c.into_parts-old.ensures.valid c.as_slice.ensures.value c.into_parts-old.ensures.nodes c.in_ok-nodes.ensures.arranged in
    let plan : IsPlan c.args.plan.nodes = subst IsPlan c.into_parts-old.ensures.nodes c.in_ok-nodes.ensures.plan in
    let nodes : c.new.result.nodes ≡ c.in_ok-nodes.nodes = ap (λ (p : Parts). p.nodes) c.new.ensures in
    λ distinct. subst AreDistinct (sym nodes) (pruned-distinct c.in_ok-order.order.marks.items c.args.plan.nodes c.in_ok-nodes.nodes c.kept_nodes.new.to.items kept.pruned plan kept.marked.closed kept.marked.long distinct)

pub returns-clause-merged : goal.returns-clause-merged
returns-clause-merged c =
    let kept = kept_of c.args.plan c.in_ok-order.order.numbers.items c.kept_nodes.new.to.items c.in_ok-order.order.marks.items c.in_ok-nodes.nodes c.as_slice.result.now c.into_parts-old.result.0
    c.in_ok-order.ensures c.into_parts-old.ensures.valid c.as_slice.ensures.value c.into_parts-old.ensures.nodes c.in_ok-nodes.ensures.arranged in
    let plan : IsPlan c.args.plan.nodes = subst IsPlan c.into_parts-old.ensures.nodes c.in_ok-nodes.ensures.plan in
    let nodes : c.new.result.nodes ≡ c.in_ok-nodes.nodes = ap (λ (p : Parts). p.nodes) c.new.ensures in
    λ merged. subst AreMerged (sym nodes) (pruned-merged c.in_ok-order.order.marks.items c.args.plan.nodes c.in_ok-nodes.nodes c.kept_nodes.new.to.items kept.pruned plan kept.marked.closed kept.marked.long merged)
