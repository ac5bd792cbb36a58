-- What several writes in a row do to the bytes that a sink holds.
use Rattle.std.proofs.Common.{◌≡◌, ℕ, ◌+◌, ◌-◌, List, [], ◌++◌, length, take, drop, refl, ap, subst, append_assoc, take-append-drop, ◌∙◌, sym, None, Some, Option, Result, Ok, Err}
use Rattle.std.proofs.Math.Seq.{take-add}
use Rattle.std.proofs.lemmas.List.{take_rest, take_at, append-nil}
use Rattle.std.specs.Prelude.{MatchResult, OnOk}
use Rattle.std.specs.Io.KnownBytes.{Appends}
use Rattle.demo_corpus.specs.Prefixes.{GainsAllBut, GainsFront, AppendsFront}

-- two writes in a row
pub appends_more : (a b c : Option (List ℕ)) (xs ys : List ℕ) → Appends a b xs → Appends b c ys → Appends a c (xs ++ ys)
appends_more None b c xs ys h k = tt
appends_more (Some a) None c xs ys h k = absurd h
appends_more (Some a) (Some b) None xs ys h k = absurd k
appends_more (Some a) (Some b) (Some c) xs ys h k = k ∙ ap (λ zs. zs ++ ys) h ∙ append_assoc a xs ys

-- a write of the next bytes of a piece of which the first n are written
pub appends_next : (a b c : Option (List ℕ)) (piece : List ℕ) (n k : ℕ)
    → Appends a b (take n piece)
    → Appends b c (take k (take (length piece - n) (drop n piece)))
    → Appends a c (take (n + k) piece)
appends_next a b c piece n k h j =
    let rest : Appends b c (take k (drop n piece)) = rw take_rest at j in
    let more : Appends a c (take n piece ++ take k (drop n piece)) = appends_more a b c _ _ h rest in
    rw take-add more

-- a sink that nothing was written to
pub appends_nothing : (a : Option (List ℕ)) → Appends a a []
appends_nothing None = tt
appends_nothing (Some xs) = sym (append-nil xs)

-- a front of a text that was gained
pub front_of : (a c : Option (List ℕ)) (front rest text : List ℕ) → text ≡ front ++ rest → Appends a c front → GainsFront a c text
front_of a c front rest text is h =
    (length front, subst (λ (bytes : List ℕ). Appends a c bytes) (sym (ap (λ (bytes : List ℕ). take (length front) bytes) is ∙ take_at front rest (length front) refl)) h)

-- nothing is a front of every text
pub front_of_nothing : (a : Option (List ℕ)) (text : List ℕ) → GainsFront a a text
front_of_nothing a text = front_of a a [] text text refl (appends_nothing a)

-- all but the rest was gained, and then what stands after it: all but a later rest was gained
pub gained_more : (a b c : Option (List ℕ)) (rest more still text : List ℕ) → GainsAllBut rest a b text → GainsAllBut still b c (rest ++ more) → GainsAllBut still a c (text ++ more)
gained_more a b c rest more still text h k = record {
  front = h.front ++ k.front;
  whole = ap (λ bytes. bytes ++ more) h.whole ∙ append_assoc h.front rest more ∙ ap (λ bytes. h.front ++ bytes) k.whole ∙ sym (append_assoc h.front k.front still);
  gained = appends_more a b c h.front k.front h.gained k.gained;
}

-- all but the rest was gained, and then a front of what stands after it: a front of the longer text was gained
pub front_more : (a b c : Option (List ℕ)) (rest more text : List ℕ) → GainsAllBut rest a b text → GainsFront b c (rest ++ more) → GainsFront a c (text ++ more)
front_more a b c rest more text h k =
    let n = k.0 in
    let split : rest ++ more ≡ take n (rest ++ more) ++ drop n (rest ++ more) = sym (take-append-drop n (rest ++ more)) in
    front_of a c (h.front ++ take n (rest ++ more)) (drop n (rest ++ more)) (text ++ more)
    (ap (λ bytes. bytes ++ more) h.whole ∙ append_assoc h.front rest more ∙ ap (λ bytes. h.front ++ bytes) split ∙ sym (append_assoc h.front (take n (rest ++ more)) (drop n (rest ++ more))))
    (appends_more a b c h.front (take n (rest ++ more)) h.gained k.1)

-- a front of a text is a front of each text that goes on with it
pub front_longer : (a c : Option (List ℕ)) (text later : List ℕ) → GainsFront a c text → GainsFront a c (text ++ later)
front_longer a c text later h =
    let n = h.0 in
    front_of a c (take n text) (drop n text ++ later) (text ++ later)
    (ap (λ bytes. bytes ++ later) (sym (take-append-drop n text)) ∙ append_assoc (take n text) (drop n text) later) h.1

-- what was written whole leaves no rest
pub sent_whole : {T E : Type 0} (result : Result T E) (a c : Option (List ℕ)) (text still : List ℕ) → AppendsFront a c result text → OnOk result (still ≡ [])
    → MatchResult result (λ _. GainsAllBut still a c text) (λ _. GainsFront a c text)
sent_whole (Ok x) a c text still h cleared = record { front = text; whole = sym (append-nil text) ∙ ap (λ bytes. text ++ bytes) (sym cleared); gained = h }
sent_whole (Err e) a c text still h cleared = h

-- the rest was written, or a front of it: so was the whole text
pub sent_rest : {T E : Type 0} (result : Result T E) (a b c : Option (List ℕ)) (rest text : List ℕ) → GainsAllBut rest a b text → AppendsFront b c result rest → AppendsFront a c result text
sent_rest (Ok x) a b c rest text h k = subst (λ (bytes : List ℕ). Appends a c bytes) (sym h.whole) (appends_more a b c h.front rest h.gained k)
sent_rest (Err e) a b c rest text h k =
    subst (λ (bytes : List ℕ). GainsFront a c bytes) (append-nil text) (front_more a b c rest [] text h (front_longer b c rest [] k))
