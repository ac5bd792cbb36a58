use Rattle.algebra.specs.Items.{output_nodes}
use Rattle.push_select.specs.Pushed.{AreUnrestricted}
use Rattle.plan_maker.proofs.Asking.{unrestricted-again, ask-both}
use Rattle.plan_maker.proofs.Dropping.{conditional-again, restricted-again}
use Rattle.plan_maker.proofs.Keeping.{pushed-again}
use Rattle.plan_maker.proofs.MadePlans.{made, lowered-shows}
use Rattle.plan_maker.proofs.making.make_plan.Goals as goal

pub returns-clause-shows : goal.returns-clause-shows
returns-clause-shows c =
    made c.args.typed c.in_ok-restricted.restricted c.in_ok-plan.plan
    (made c.args.typed c.in_ok-whole.whole c.in_ok-restricted.restricted
    (made c.args.typed c.in_ok-shared.shared c.in_ok-whole.whole
    (made c.args.typed c.in_ok-read.read c.in_ok-shared.shared
    (made c.args.typed c.in_ok-pushed.pushed c.in_ok-read.read
    (made c.args.typed c.in_ok-turned.turned c.in_ok-pushed.pushed
    (made c.args.typed c.in_ok-lowered.lowered c.in_ok-turned.turned (lowered-shows c.args.typed c.in_ok-lowered.lowered c.in_ok-lowered.ensures.lowered) c.in_ok-turned.ensures.keeps)
    c.in_ok-pushed.ensures.keeps)
    c.in_ok-read.ensures.keeps)
    c.in_ok-shared.ensures.keeps)
    c.in_ok-whole.ensures.keeps)
    c.in_ok-restricted.ensures.keeps)
    c.in_ok-plan.ensures.keeps

pub returns-clause-normal : goal.returns-clause-normal
returns-clause-normal c =
    let whole = c.in_ok-whole.whole in
    let before = c.in_ok-restricted.restricted in
    let shown = output_nodes before in
    let plan = c.in_ok-plan.plan in
    let distinct = c.in_ok-whole.ensures.distinct c.in_ok-shared.ensures.distinct in
    let merged = c.in_ok-whole.ensures.merged c.in_ok-shared.ensures.merged in
    let unrestricted : AreUnrestricted whole.nodes =
    unrestricted-again _ _ c.in_ok-whole.ensures.renumbered
    (unrestricted-again _ _ c.in_ok-shared.ensures.renumbered (unrestricted-again _ _ c.in_ok-read.ensures.renumbered c.in_ok-pushed.ensures.unrestricted)) in
    record {
      distinct = c.in_ok-plan.ensures.distinct (c.in_ok-restricted.ensures.distinct (ask-both whole.nodes unrestricted) distinct);
      merged = c.in_ok-plan.ensures.merged (c.in_ok-restricted.ensures.merged (ask-both whole.nodes unrestricted) merged);
      conditional = conditional-again before.nodes shown plan.nodes (output_nodes plan) c.in_ok-plan.ensures.dropped c.in_ok-restricted.ensures.conditional;
      restricted = restricted-again before.nodes shown plan.nodes (output_nodes plan) c.in_ok-plan.ensures.dropped c.in_ok-restricted.ensures.restricted;
      read = c.in_ok-plan.ensures.read;
      ordered = c.in_ok-plan.ensures.ordered;
      before = whole;
      made = record {
        promised = record {
          distinct = distinct;
          merged = merged;
          pushed = pushed-again _ _ c.in_ok-whole.ensures.renumbered (pushed-again _ _ c.in_ok-shared.ensures.renumbered (pushed-again _ _ c.in_ok-read.ensures.renumbered c.in_ok-pushed.ensures.pushed));
          unrestricted = unrestricted;
          read = c.in_ok-whole.ensures.read;
        };
        between = before;
        numbers = c.in_ok-restricted.ensures.rebuilt.0;
        restricted = c.in_ok-restricted.ensures.rebuilt.1;
        dropped = c.in_ok-plan.ensures.dropped;
      };
    }
