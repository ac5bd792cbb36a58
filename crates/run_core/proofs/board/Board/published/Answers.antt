use Rattle.std.proofs.Common.{◌∙◌, ap, arith}
use Rattle.run_core.specs.Boards.{Standing, State, standing}
use Rattle.run_core.proofs.Keeping.{there, sound, read, rows_needed, rows_value, rows_lacking}
use Rattle.run_core.proofs.board.Board.published.Goals as goal

pub index-requires : goal.index-requires
index-requires c = omega (arith, there _ c.args.self.now c.args.item c.self.view_is c.self.invariant c.requires.in_range, c.self.inside.spots.ok.0)

pub returns-clause-rows : goal.returns-clause-rows
returns-clause-rows c =
    let below = there _ c.args.self.now c.args.item c.self.view_is c.self.invariant c.requires.in_range in
    c.rows.ensures
    ∙ (ap (λ (s : Standing). s.rows) (read c.self.inside.spots.items c.args.item c.index.result.now below c.index.ensures)
    ∙ ap (λ (b : State). (standing b c.args.item).rows) c.self.view_is)

pub returns-clause-value : goal.returns-clause-value
returns-clause-value c = rows_value (λ rows. rows.now) c.args.self.now c.args.item c.rows.result (sound _ c.args.self.now c.self.view_is c.self.invariant) (returns-clause-rows c)

pub returns-clause-needed : goal.returns-clause-needed
returns-clause-needed c = rows_needed (λ rows. rows.now) c.args.self.now c.args.item c.rows.result (sound _ c.args.self.now c.self.view_is c.self.invariant) (returns-clause-rows c)

pub returns-clause-goes_on : goal.returns-clause-goes_on
returns-clause-goes_on c = rows_lacking (λ rows. rows.now) c.args.self.now c.args.item c.rows.result (sound _ c.args.self.now c.self.view_is c.self.invariant) (returns-clause-rows c)
