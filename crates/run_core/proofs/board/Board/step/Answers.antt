use Rattle.std.proofs.Common.{List, sym, subst, option_map, arith}
use Rattle.std.specs.Arc.{arc_value}
use Rattle.run_core.specs.Boards.{Standing}
use Rattle.run_core.specs.Histories.{IsBoard}
use Rattle.run_core.specs.Promises.{IsSound}
use Rattle.run_core.proofs.Keeping.{item_there, board_after, sound_kept}
use Rattle.run_core.proofs.board.Board.step.Goals as goal

pub step_spots-requires : goal.step_spots-requires
step_spots-requires c =
    let there = item_there _ c.args.self.now c.args.event (option_map arc_value c.args.rows) c.self.view_is c.self.invariant c.requires.legal in
    record { in_range = omega (arith, there, c.self.inside.spots.ok.0) }

pub invariant_of-self : goal.invariant_of-self
invariant_of-self c =
    subst (λ (items : List Standing). IsBoard (record { plan = c.self.inside.plan.now; docs = c.self.inside.docs.now; items = items })) (sym c.step_spots.ensures)
    (board_after _ c.args.self.now c.args.event (option_map arc_value c.args.rows) c.self.view_is c.self.invariant c.requires.legal)

pub returns-clause-sound : goal.returns-clause-sound
returns-clause-sound c =
    subst (λ (items : List Standing). IsSound (record { plan = c.self.inside.plan.now; docs = c.self.inside.docs.now; items = items })) (sym c.step_spots.ensures)
    (sound_kept _ c.args.self.now c.args.event (option_map arc_value c.args.rows) c.self.view_is c.self.invariant c.requires.legal)
