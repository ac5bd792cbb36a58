use Rattle.run_core_tests.specs.EmptyLeft.{start-unwanted}
use Rattle.run_core_tests.proofs.tests.joined_start.Goals as goal

pub returns-clause-unwanted : goal.returns-clause-unwanted
returns-clause-unwanted c = start-unwanted c.args.plan.now c.args.docs.now c.in_ok-board.board c.requires.nodes c.requires.shown c.in_ok-board.ensures.fresh
