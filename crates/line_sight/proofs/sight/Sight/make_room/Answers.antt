use Rattle.std.proofs.Common.{◌∙◌, List, ℕ, ap}
use Rattle.line_sight.specs.Seen.{Sighted}
use Rattle.line_sight.proofs.Looking.{kept-range}
use Rattle.line_sight.proofs.sight.Sight.make_room.Goals as goal

pub returns-in_ok-grow : goal.returns-in_ok-grow
returns-in_ok-grow c =
    let s = c.self.inside in
    ap (λ (b : List ℕ). let v : Sighted = record { at = s.at; bytes = b } in v) (kept-range c.grow.new.room.items s.room.items s.from s.to c.self.invariant.0 c.grow.ensures.kept)
    ∙ c.self.view_is ∙ c.move_to_front.ensures
