use Rattle.restrict_eval.proofs.Sides.{node_below}
use Rattle.restrict_eval.proofs.turning.crossed.Goals as goal

pub has_matches-requires : goal.has_matches-requires
has_matches-requires c = record { there = node_below c.args.nodes.now c.args.left c.requires.valid.left_below }

pub has_matches-requires-then-branch : goal.has_matches-requires-then-branch
has_matches-requires-then-branch c = record { there = node_below c.args.nodes.now c.args.right c.requires.valid.right_below }
