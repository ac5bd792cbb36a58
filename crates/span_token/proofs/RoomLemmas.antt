-- Lists with room, of which the first elements count.
use Rattle.std.proofs.Common.{◌≡◌, ◌<◌, ◌+◌, ◌∙◌, ℕ, Bool, true, false, cond, List, [], ◌∷◌, ◌++◌, length, set, take, ap, arith}
use Rattle.std.proofs.lemmas.List.{take-set, take_more_set}

-- one is put behind those that count, and counts too or doesn't
pub take-put : {X : Type 0} (counts : Bool) (room : List X) (count n : ℕ) (one : X) → count < length room → n ≡ cond counts 1 0 →
    take (count + n) (set room count one) ≡ cond counts (take count room ++ one ∷ []) (take count room)
take-put true room count n one short is = ap (λ k. take (count + k) (set room count one)) is ∙ take_more_set room count one short
take-put false room count n one short is =
    let same : count + n ≡ count = omega (arith, is) in
    ap (λ k. take k (set room count one)) same ∙ take-set room count one
