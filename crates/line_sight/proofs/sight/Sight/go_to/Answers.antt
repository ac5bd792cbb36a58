use Rattle.line_sight.proofs.Looking.{sees-none}
use Rattle.line_sight.proofs.sight.Sight.go_to.Goals as goal

pub returns-clause-sees : goal.returns-clause-sees
returns-clause-sees c = λ shown within. sees-none shown c.args.at within
