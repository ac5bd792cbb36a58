use Rattle.std.proofs.Common.{ℕ, List, sym, ap, ◌∙◌, subst}
use Rattle.run_tables.specs.declared.rule.Sizes.{Sizes}
use Rattle.run_tables.specs.declared.rule.View.{View}
use Rattle.run_tables.specs.ClaimWords.{AreWords}
use Rattle.run_tables.specs.Seats.{ClaimTable, Seated}
use Rattle.run_tables.proofs.Steps.{closes}
use Rattle.run_tables.proofs.claims.Claims.close.Goals as goal

pub returns-clause-words : goal.returns-clause-words
returns-clause-words c =
    let last = c.close_with-closed.ensures.values.2 in
    let seat_is = ap (λ (seat : Seated). seat.view) c.seat.view_is in
    let sizes_are = sym (ap (λ (claims : ClaimTable). claims.sizes.seats) c.self.view_is) ∙ sym (ap (λ (sizes : Sizes). sizes.seats) c.self.invariant.0) in
    let words = closes _ _ _ _ last.1.0 last.1.1 (ap (λ (view : View). view.parts) seat_is ∙ c.requires.all_seats ∙ sizes_are) in
    subst (λ (ws : List ℕ). AreWords ws c.args.seat.view.won) (last.2 ∙ sym c.read_words-words.ensures) (subst (λ (view : View). AreWords last.0.words view.won) seat_is words)
