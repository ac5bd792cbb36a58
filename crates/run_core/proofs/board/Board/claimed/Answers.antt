use Rattle.std.proofs.Common.{◌∙◌, ap, arith}
use Rattle.run_core.specs.Boards.{Standing, State, standing}
use Rattle.run_core.proofs.Keeping.{there, sound, read, claim_needed}
use Rattle.run_core.proofs.board.Board.claimed.Goals as goal

pub index-requires : goal.index-requires
index-requires c = omega (arith, there _ c.args.self.now c.args.item c.self.view_is c.self.invariant c.requires.in_range, c.self.inside.spots.ok.0)

pub returns-clause-claim : goal.returns-clause-claim
returns-clause-claim c =
    let below = there _ c.args.self.now c.args.item c.self.view_is c.self.invariant c.requires.in_range in
    c.claim.ensures
    ∙ (ap (λ (s : Standing). s.claim) (read c.self.inside.spots.items c.args.item c.index.result.now below c.index.ensures)
    ∙ ap (λ (b : State). (standing b c.args.item).claim) c.self.view_is)

pub returns-clause-needed : goal.returns-clause-needed
returns-clause-needed c = claim_needed c.args.self.now c.args.item c.claim.result (sound _ c.args.self.now c.self.view_is c.self.invariant) (returns-clause-claim c)
