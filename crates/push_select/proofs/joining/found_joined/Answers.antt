use Rattle.scalar_ops.specs.Expressions.{ReadsBelow}
use Rattle.push_select.specs.Replacing.{joint_width}
use Rattle.push_select.specs.Pushed.{width_at, ReadsBoth}
use Rattle.push_select.proofs.Replacing.{others-all, join-valid, found-combines}
use Rattle.push_select.proofs.joining.found_joined.Goals as goal

pub joined-requires-clause-both : goal.joined-requires-clause-both
joined-requires-clause-both c = join-valid c.args.nodes.now c.args.pair c.requires.both c.args.conds.items c.args.found c.requires.found c.requires.reads

pub joined-requires-clause-reads : goal.joined-requires-clause-reads
joined-requires-clause-reads c =
    others-all c.args.nodes.now c.args.pair c.requires.both c.args.conds.items c.args.found c.requires.found (ReadsBelow (joint_width c.args.nodes.now c.args.pair))
    c.remove-joins.new.self.items c.remove-joins.ensures.by_index.2 c.requires.reads

pub joined-requires-clause-joint : goal.joined-requires-clause-joint
joined-requires-clause-joint c =
    others-all c.args.nodes.now c.args.pair c.requires.both c.args.conds.items c.args.found c.requires.found (ReadsBoth (width_at c.args.nodes.now c.args.pair.left))
    c.remove-joins.new.self.items c.remove-joins.ensures.by_index.2 c.requires.joint

pub returns-clause-combines : goal.returns-clause-combines
returns-clause-combines c =
    found-combines c.args.nodes.now c.args.pair c.requires.both c.args.conds.items c.args.found c.requires.found c.requires.pushed.plan
    c.remove-joins.new.self.items c.remove-joins.ensures.by_index.2 c.joined.new.nodes c.in_ok-n.n c.in_ok-n.ensures.combines
