-- What several writes in a row do to the bytes that a sink holds.
use Rattle.std.proofs.Common.{ℕ, ◌+◌, ◌-◌, ◌≤◌, List, [], ◌++◌, length, take, drop, ap, append_assoc, ◌∙◌, sym, None, Some, Option, Result, Ok, Err, inl, inr, le_refl, arith}
use Rattle.std.proofs.Math.Seq.{take-add, take-append-add}
use Rattle.std.proofs.lemmas.Bool.{cases_lt}
use Rattle.std.proofs.lemmas.List.{take_rest, take_all, take-append-le, append-nil}
use Rattle.std.specs.Io.KnownBytes.{Appends}
use Rattle.line_parts.specs.Fronts.{AppendsFront}

-- two writes in a row
pub appends_more : (a b c : Option (List ℕ)) (xs ys : List ℕ) → Appends a b xs → Appends b c ys → Appends a c (xs ++ ys)
appends_more None b c xs ys h k = tt
appends_more (Some a) None c xs ys h k = absurd h
appends_more (Some a) (Some b) None xs ys h k = absurd k
appends_more (Some a) (Some b) (Some c) xs ys h k = k ∙ ap (λ zs. zs ++ ys) h ∙ append_assoc a xs ys

-- a write of the next bytes of a piece of which the first n are written
pub appends_next : (a b c : Option (List ℕ)) (piece : List ℕ) (n k : ℕ)
    → Appends a b (take n piece)
    → Appends b c (take k (take (length piece - n) (drop n piece)))
    → Appends a c (take (n + k) piece)
appends_next a b c piece n k h j =
    let rest : Appends b c (take k (drop n piece)) = rw take_rest at j in
    let more : Appends a c (take n piece ++ take k (drop n piece)) = appends_more a b c _ _ h rest in
    rw take-add more

-- a piece that was written whole is also a front of itself, whatever a later call answers
pub front_of_whole : {T E : Type 0} (a b : Option (List ℕ)) (r : Result T E) (xs : List ℕ) → Appends a b xs → AppendsFront a b r xs
front_of_whole a b (Ok x) xs h = h
front_of_whole a b (Err e) xs h = let same : length xs ≤ length xs = omega arith in (length xs, rw (take_all (length xs) xs same) h)

-- a sink that nothing was written to
pub appends_nothing : (a : Option (List ℕ)) → Appends a a []
appends_nothing None = tt
appends_nothing (Some xs) = sym (append-nil xs)

-- all of a text, and a front of what is behind it
pub front_behind : (a b c : Option (List ℕ)) (xs ys : List ℕ) → Appends a b xs → (n : ℕ) → Appends b c (take n ys) → (k : ℕ) × Appends a c (take k (xs ++ ys))
front_behind a b c xs ys h n k = (length xs + n, rw (take-append-add xs ys n) (appends_more a b c xs (take n ys) h k))

pub front_more : {T E : Type 0} (a b c : Option (List ℕ)) (r : Result T E) (xs ys : List ℕ) → Appends a b xs → AppendsFront b c r ys → AppendsFront a c r (xs ++ ys)
front_more a b c (Ok x) xs ys h k = appends_more a b c xs ys h k
front_more a b c (Err e) xs ys h k = front_behind a b c xs ys h k.0 k.1

-- a front of a text is one of what goes on behind it
pub front_wider : (a b : Option (List ℕ)) (xs ys : List ℕ) (n : ℕ) → Appends a b (take n xs) → (k : ℕ) × Appends a b (take k (xs ++ ys))
front_wider a b xs ys n h = elim (cases_lt n (length xs)) [
  | inl short ↦ (n, rw (take-append-le n xs ys (omega (arith, short))) h)
  | inr long ↦ (length xs, rw (take-append-le (length xs) xs ys (le_refl (length xs)), take_all (length xs) xs (le_refl (length xs))) (rw (take_all n xs (omega (arith, long))) at h))
]
