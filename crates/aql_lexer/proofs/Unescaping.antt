-- The loop that takes escapes away: what is written, what is yet to be copied, and what the rest stands for.
use Rattle.std.proofs.Common.{◌≡◌, ◌≢◌, ℕ, ◌+◌, ◌-◌, ◌<◌, ◌≤◌, ◌⊎◌, Bool, true, false, List, [], ◌∷◌, ◌++◌, length, take, drop, get_or, refl, sym, ap, ◌∙◌, inl, inr, arith}
use Rattle.std.proofs.lemmas.Bool.{ne_eqb}
use Rattle.std.proofs.lemmas.Bool.Decides.{eqb_tells}
use Rattle.std.proofs.lemmas.List.{append_assoc, at_drop_more, drop_all, drop_more, take_more, get_or-drop, length-drop}
use Rattle.aql_lexer.specs.Scanning.{unescaped_from}

-- the bytes from `from` up to `at`
abbrev pub waiting : List ℕ → ℕ → ℕ → List ℕ
waiting text from at = take (at - from) (drop from text)

waiting-more : (text : List ℕ) (from at : ℕ) → from ≤ at → at < length text → waiting text from (at + 1) ≡ waiting text from at ++ get_or text at 0 ∷ []
waiting-more text from at order within =
    let e : at + 1 - from ≡ at - from + 1 = omega arith in
    let inside : at - from < length (drop from text) = omega (arith, length-drop from text) in
    let place : from + (at - from) ≡ at = omega arith in
    rw (e, take_more (drop from text) (at - from) 0 inside, get_or-drop from text (at - from) 0, place)

-- what the waiting bytes and the rest give, where one byte more waits
waits : (text rest rest' : List ℕ) (from at : ℕ) → from ≤ at → at < length text → rest ≡ get_or text at 0 ∷ rest' → waiting text from at ++ rest ≡ waiting text from (at + 1) ++ rest'
waits text rest rest' from at order within e = rw (e, waiting-more text from at order within, append_assoc)

last-byte : (escapes : ℕ → Bool) (b : ℕ) → unescaped_from escapes false (b ∷ []) ≡ b ∷ []
last-byte escapes b = elim (eqb_tells b 92) [ inl w ↦ rw w.0 (ap (λ x. x ∷ []) (sym w.1)) | inr w ↦ rw w.0 ]

plain : (escapes : ℕ → Bool) (b : ℕ) (bs : List ℕ) → (b ≢ 92) ⊎ (bs ≡ []) → unescaped_from escapes false (b ∷ bs) ≡ b ∷ unescaped_from escapes false bs
plain escapes b bs (inl other) = rw (ne_eqb b 92 other)
plain escapes b bs (inr last) = rw last (last-byte escapes b)

pair : (escapes : ℕ → Bool) (b c : ℕ) (bs : List ℕ) → b ≡ 92 → unescaped_from escapes false (b ∷ c ∷ bs) ≡ unescaped_from escapes true (c ∷ bs)
pair escapes b c bs e = rw e

-- the rest from `at` on, at a byte that begins no pair
rest-plain : (escapes : ℕ → Bool) (text : List ℕ) (at : ℕ) → at < length text → (get_or text at 0 ≢ 92) ⊎ (length text ≤ at + 1) → unescaped_from escapes false (drop at text) ≡ get_or text at 0 ∷ unescaped_from escapes false (drop (at + 1) text)
rest-plain escapes text at within (inl other) = at_drop_more (unescaped_from escapes false) text at 0 within ∙ plain escapes _ _ (inl other)
rest-plain escapes text at within (inr last) = at_drop_more (unescaped_from escapes false) text at 0 within ∙ plain escapes _ _ (inr (drop_all (at + 1) text last))

-- at a pair
rest-pair : (escapes : ℕ → Bool) (text : List ℕ) (at : ℕ) → at + 1 < length text → get_or text at 0 ≡ 92 → unescaped_from escapes false (drop at text) ≡ unescaped_from escapes true (get_or text (at + 1) 0 ∷ drop (at + 2) text)
rest-pair escapes text at within e =
    let two : at + 1 + 1 ≡ at + 2 = omega arith in
    let tail : drop (at + 1) text ≡ get_or text (at + 1) 0 ∷ drop (at + 2) text = rw (← two) (drop_more text (at + 1) 0 within) in
    at_drop_more (unescaped_from escapes false) text at 0 (omega arith) ∙ rw tail (pair escapes _ _ (drop (at + 2) text) e)

pub keeps_plain : (escapes : ℕ → Bool) (text written all : List ℕ) (from at : ℕ) → from ≤ at → at < length text → (get_or text at 0 ≢ 92) ⊎ (length text ≤ at + 1)
    → written ++ (waiting text from at ++ unescaped_from escapes false (drop at text)) ≡ all → written ++ (waiting text from (at + 1) ++ unescaped_from escapes false (drop (at + 1) text)) ≡ all
keeps_plain escapes text written all from at order within why h =
    ap (λ bs. written ++ bs) (sym (waits text _ _ from at order within (rest-plain escapes text at within why))) ∙ h

rest-kept : (escapes : ℕ → Bool) (text : List ℕ) (at : ℕ) → at + 1 < length text → get_or text at 0 ≡ 92 → escapes (get_or text (at + 1) 0) ≡ false → unescaped_from escapes false (drop at text) ≡ get_or text at 0 ∷ get_or text (at + 1) 0 ∷ unescaped_from escapes false (drop (at + 2) text)
rest-kept escapes text at within slash other = rest-pair escapes text at within slash ∙ rw (other, slash)

rest-dropped : (escapes : ℕ → Bool) (text : List ℕ) (at : ℕ) → at + 1 < length text → get_or text at 0 ≡ 92 → escapes (get_or text (at + 1) 0) ≡ true → unescaped_from escapes false (drop at text) ≡ get_or text (at + 1) 0 ∷ unescaped_from escapes false (drop (at + 2) text)
rest-dropped escapes text at within slash bare = rest-pair escapes text at within slash ∙ rw bare

pub keeps_pair : (escapes : ℕ → Bool) (text written all : List ℕ) (from at : ℕ) → from ≤ at → at + 1 < length text → get_or text at 0 ≡ 92 → escapes (get_or text (at + 1) 0) ≡ false
    → written ++ (waiting text from at ++ unescaped_from escapes false (drop at text)) ≡ all → written ++ (waiting text from (at + 2) ++ unescaped_from escapes false (drop (at + 2) text)) ≡ all
keeps_pair escapes text written all from at order within slash other h =
    let two : at + 1 + 1 ≡ at + 2 = omega arith in
    let first = waits text _ _ from at order (omega arith) (rest-kept escapes text at within slash other) in
    let second = waits text (get_or text (at + 1) 0 ∷ unescaped_from escapes false (drop (at + 2) text)) (unescaped_from escapes false (drop (at + 2) text)) from (at + 1) (omega arith) within refl in
    let both : waiting text from at ++ unescaped_from escapes false (drop at text) ≡ waiting text from (at + 2) ++ unescaped_from escapes false (drop (at + 2) text) = first ∙ rw two at second in
    rw (← both) h

pub drops_backslash : (escapes : ℕ → Bool) (text written all : List ℕ) (from at : ℕ) → from ≤ at → at + 1 < length text → get_or text at 0 ≡ 92 → escapes (get_or text (at + 1) 0) ≡ true
    → written ++ (waiting text from at ++ unescaped_from escapes false (drop at text)) ≡ all → (written ++ waiting text from at) ++ (waiting text (at + 1) (at + 2) ++ unescaped_from escapes false (drop (at + 2) text)) ≡ all
drops_backslash escapes text written all from at order within slash bare h =
    let one : at + 2 - (at + 1) ≡ 1 = omega arith in
    let taken : waiting text (at + 1) (at + 2) ≡ get_or text (at + 1) 0 ∷ [] = rw (one, drop_more text (at + 1) 0 within) in
    rw (taken, append_assoc, ← rest-dropped escapes text at within slash bare) h
