use Rattle.std.proofs.Common.{◌≡◌, ◌∙◌, List, [], ◌∷◌, get_or, sym, ap, subst, Result, Ok, Err, IfOk}
use Rattle.run_core.specs.Boards.{State, fresh}
use Rattle.run_core.specs.Histories.{Happening, AreLegal, after_all}
use Rattle.run_core_tests.specs.Doubled.{only_one}
use Rattle.run_core_tests.specs.EmptyLeft.{IsUnwanted, joined_events, joined-legal, end-unwanted}
use Rattle.run_core_tests.proofs.tests.joined_board.Goals as goal

pub replay-requires-clause-legal : goal.replay-requires-clause-legal
replay-requires-clause-legal c =
    subst (λ (events : List Happening). AreLegal (fresh c.args.plan.now c.args.docs.now) events) (sym c.in_ok-events.ensures)
    (joined-legal c.args.plan.now c.args.docs.now c.index-docs-0.result c.requires.nodes c.requires.patterns c.requires.shown (only_one c.args.docs.now c.index-docs-0.result c.requires.one c.index-docs-0.is))

on_ok : {E : Type 0} (board : Result State E) (end : State) → IfOk board (λ b. b ≡ end) → ((b : State) → b ≡ end → IsUnwanted b 2) → IfOk board (λ b. IsUnwanted b 2)
on_ok (Ok b) end is unwanted = unwanted b is
on_ok (Err e) end is unwanted = tt

pub returns-clause-unwanted : goal.returns-clause-unwanted
returns-clause-unwanted c =
    let plan = c.args.plan.now in
    let docs = c.args.docs.now in
    let one = only_one docs c.index-docs-0.result c.requires.one c.index-docs-0.is in
    on_ok c.replay.result _ c.replay.ensures.after
    (λ board is. end-unwanted plan docs c.index-docs-0.result board c.requires.nodes c.requires.shown one (is ∙ ap (after_all (fresh plan docs)) c.in_ok-events.ensures))
