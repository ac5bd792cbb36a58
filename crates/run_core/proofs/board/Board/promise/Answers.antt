use Rattle.run_core.proofs.Keeping.{sound}
use Rattle.run_core.proofs.board.Board.promise.Goals as goal

pub returns-clause-sound : goal.returns-clause-sound
returns-clause-sound c = sound _ c.args.self.now c.self.view_is c.self.invariant
