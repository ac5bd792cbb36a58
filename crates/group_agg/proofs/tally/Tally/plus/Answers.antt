use Rattle.std.proofs.Common.{◌^◌, arith, subst}
use Rattle.std.proofs.lemmas.Int.{ints}
use Rattle.group_agg.specs.Tallies.{sofar_of, IsBounded}
use Rattle.group_agg.proofs.tally.Tally.plus.Goals as goal

pub returns-in-Total-clause-bounded : goal.returns-in-Total-clause-bounded
returns-in-Total-clause-bounded c = λ k h.
    let room = subst (λ t. IsBounded (2 ^ 32) (sofar_of t)) c.in-Total.is c.requires.room in
    let b = subst (λ t. IsBounded k (sofar_of t)) c.in-Total.is h in
    (omega (arith, ints), omega (arith, ints))
