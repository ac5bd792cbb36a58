use Rattle.push_select.proofs.Replacing.{node_there}
use Rattle.push_select.proofs.joining.matched.Goals as goal

pub shape-width-requires : goal.shape-width-requires
shape-width-requires c = record { in_range = node_there c.args.nodes.now c.args.pair.left c.requires.both.left_below }
