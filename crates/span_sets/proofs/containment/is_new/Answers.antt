use Rattle.std.proofs.Common.{◌≡◌, ◌+◌, ◌-◌, Bool, true, false, not, arith}
use Rattle.std.proofs.lemmas.Bool.{OnTrue_from}
use Rattle.span_sets.specs.Candidates.{IsNew}
use Rattle.span_sets.specs.LawProofs.Sweeps.{IsNew-next}
use Rattle.span_sets.proofs.containment.is_new.Goals as goal

not_true : (b : Bool) → not b ≡ true → b ≡ true → ⊥
not_true true e f = absurd cc
not_true false e f = absurd cc

pub returns-else-i-eq0-clause-new : goal.returns-else-i-eq0-clause-new
returns-else-i-eq0-clause-new c =
    let one : (c.args.i - 1) + 1 ≡ c.args.i = omega (arith, c.if-i-eq0.false) in
    OnTrue_from (not c.is_like.result) (IsNew c.args.sorted.now c.args.i)
    (λ t. (IsNew-next c.args.sorted.now c.requires.sorted (c.args.i - 1) c.args.i one c.requires.there).1 (λ alike. not_true c.is_like.result t (c.is_like.ensures.1 alike)))
