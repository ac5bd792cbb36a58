use Rattle.std.proofs.Common.{sym, subst}
use Rattle.algebra.specs.declared.node.Node.TheVariants.{Cross}
use Rattle.restrict_eval.specs.Turning.{HasMatches}
use Rattle.restrict_eval.proofs.Sides.{turned_more, same_sides}
use Rattle.restrict_eval.proofs.turning.kept.Goals as goal

pub returns-clause-turned : goal.returns-clause-turned
returns-clause-turned c =
    turned_more c.args.nodes.now c.add.new.self (Cross c.args.left c.args.right c.args.conditional) c.as_slice-plan.ensures.plan c.requires.valid c.in_ok-n.ensures.ok.1 c.requires.turned
    (λ l r b e has.
    let sides = same_sides c.args.left c.args.right l r c.args.conditional b e in
    subst (HasMatches c.args.nodes.now) sides.1 (c.requires.may (subst (HasMatches c.args.nodes.now) (sym sides.0) has)))
