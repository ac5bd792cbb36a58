use Rattle.std.proofs.Common.{sym, subst}
use Rattle.algebra.specs.declared.node.Node.{Node}
use Rattle.algebra.specs.Growth.{Stands}
use Rattle.algebra.specs.Nodes.{IsNode}
use Rattle.algebra.specs.Shapes.{shapes_of}
use Rattle.restrict_eval.proofs.Sides.{turned_more}
use Rattle.restrict_eval.proofs.turning.TurningRewrite.put.Goals as goal

pub crossed-requires-clause-valid : goal.crossed-requires-clause-valid
crossed-requires-clause-valid c = subst (λ (node : Node). IsNode (shapes_of c.args.nodes.now) node) c.in-Cross.is c.requires.valid

pub returns-in_ok-n-in-Cross-clause-stands : goal.returns-in_ok-n-in-Cross-clause-stands
returns-in_ok-n-in-Cross-clause-stands c =
    subst (λ (node : Node). Stands c.args.nodes.now c.crossed.new.nodes c.in_ok-n-in-Cross.n node) (sym c.in-Cross.is) c.in_ok-n-in-Cross.ensures.stands

pub returns-in_ok-n-in_default-clause-knows : goal.returns-in_ok-n-in_default-clause-knows
returns-in_ok-n-in_default-clause-knows c =
    turned_more c.args.nodes.now c.add.new.self c.args.node c.as_slice-plan.ensures.plan c.requires.valid c.in_ok-n-in_default.ensures.ok.1 c.requires.knows
    (λ l r conditional e. absurd (c.in_default.not-Cross l r conditional e))
