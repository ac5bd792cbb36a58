use Rattle.std.proofs.Common.{List, sym, subst}
use Rattle.run_core.specs.Boards.{fresh}
use Rattle.run_core.specs.Histories.{Happening, AreLegal}
use Rattle.run_core_tests.specs.Doubled.{only_one}
use Rattle.run_core_tests.specs.Matched.{matched-legal}
use Rattle.run_core_tests.proofs.tests.matched_board.Goals as goal

pub replay-requires-clause-legal : goal.replay-requires-clause-legal
replay-requires-clause-legal c =
    subst (λ (events : List Happening). AreLegal (fresh c.args.plan.now c.args.docs.now) events) (sym c.in_ok-events.ensures)
    (matched-legal c.args.plan.now c.args.docs.now c.index-docs-0.result c.requires.nodes c.requires.shown (only_one c.args.docs.now c.index-docs-0.result c.requires.one c.index-docs-0.is))
