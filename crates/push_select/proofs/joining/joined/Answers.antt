use Rattle.std.proofs.Common.{map, refl}
use Rattle.scalar_ops.specs.Views.{term_of}
use Rattle.push_select.specs.Replacing.{joined_by, join_of_pair}
use Rattle.push_select.proofs.Replacing.{node_there, above-valid, above-combines}
use Rattle.push_select.proofs.Standing.{pushed-add, above-last, above-join}
use Rattle.push_select.proofs.joining.joined.Goals as goal

pub filtered-requires-clause-valid : goal.filtered-requires-clause-valid
filtered-requires-clause-valid c =
    above-valid c.args.nodes.now c.add.new.self c.in_ok-both.both c.args.pair (joined_by c.args.join) c.in_ok-both.ensures.stands.has (map term_of c.args.conds.items) c.requires.reads

pub filtered-requires-clause-above : goal.filtered-requires-clause-above
filtered-requires-clause-above c =
    above-last c.args.nodes.now c.add.new.self c.in_ok-both.both (join_of_pair c.args.pair c.args.join) (map term_of c.args.conds.items) c.in_ok-both.ensures.ok.0 c.in_ok-both.ensures.ok.1
    (above-join c.args.nodes.now c.add.new.self c.args.pair c.args.join (map term_of c.args.conds.items) c.in_ok-both.ensures.stands.grows
    (node_there c.args.nodes.now c.args.pair.left c.requires.both.left_below) c.requires.joint)

pub filtered-requires-clause-pushed : goal.filtered-requires-clause-pushed
filtered-requires-clause-pushed c = pushed-add c.args.nodes.now c.add.new.self (join_of_pair c.args.pair c.args.join) c.in_ok-both.ensures.ok.1 c.requires.both c.requires.pushed tt refl

pub returns-clause-combines : goal.returns-clause-combines
returns-clause-combines c =
    above-combines c.args.nodes.now c.add.new.self c.in_ok-both.both c.args.pair (joined_by c.args.join) c.in_ok-both.ensures.stands.has c.filtered.new.nodes c.in_ok-n.n (map term_of c.args.conds.items)
    c.in_ok-both.ensures.stands.grows c.in_ok-n.ensures.stands
