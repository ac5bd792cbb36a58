-- The folding of ASCII text, and text that an iterator adds.
use Rattle.std.proofs.Common.{◌≡◌, ℕ, suc, ◌<◌, List, [], ◌∷◌, map, length, get_or, Option, IsAscii, chars, encode_utf8_all, refl, sym, ap, ap₂, subst, ◌∙◌, suc-le-suc, zero-le}
use Rattle.std.specs.Char.{to_ascii_lowercase}
use Rattle.std.specs.Iterator.{Drains}
use Rattle.std.proofs.lemmas.Iterator.{YieldsList, items_from_drains}
use Rattle.std.proofs.lemmas.List.{map-id}
use Rattle.std.proofs.lemmas.Str.{chars-IsAscii, encodes-IsAscii}
use Rattle.std.proofs.lemmas.Str.Ascii.{IsAscii-from_all, lowercase_ascii}
use Rattle.std.proofs.lemmas.List.Elements.{All-from_get_or, All-map, All-weaker}
use Rattle.caseless.proofs.CaselessLemmas.{default_case_fold-ascii, All-chars}
use Rattle.dict_match.specs.Dictionaries.{folded}

IsAscii-lower : (text : List ℕ) → IsAscii text → IsAscii (map to_ascii_lowercase text)
IsAscii-lower text ascii =
    IsAscii-from_all (map to_ascii_lowercase text) (All-map (λ b. b < 128) to_ascii_lowercase text (All-weaker (λ b. b < 128) (λ b. to_ascii_lowercase b < 128) lowercase_ascii text (All-from_get_or (λ b. b < 128) text 0 (λ i lt. ascii i))))

pub folded-ascii : (text : List ℕ) → IsAscii text → folded text ≡ map to_ascii_lowercase text
unfolding folded
folded-ascii text ascii =
    ap encode_utf8_all (default_case_fold-ascii (chars text) (All-chars text ascii) ∙ ap (map to_ascii_lowercase) (chars-IsAscii text ascii))
    ∙ encodes-IsAscii (map to_ascii_lowercase text) (IsAscii-lower text ascii)

map-same : (text : List ℕ) → ((k : ℕ) → k < length text → to_ascii_lowercase (get_or text k 0) ≡ get_or text k 0) → map to_ascii_lowercase text ≡ text
map-same [] h = refl
map-same (b ∷ bs) h = ap₂ ◌∷◌ (h 0 (suc-le-suc zero-le)) (map-same bs (λ k lt. h (suc k) (suc-le-suc lt)))

-- ASCII without capital letters is its own folding
pub folded-plain : (text : List ℕ) → ((k : ℕ) → k < length text → (get_or text k 0 < 128) × (to_ascii_lowercase (get_or text k 0) ≡ get_or text k 0)) → folded text ≡ text
folded-plain text h =
    folded-ascii text (IsAscii-from_all text (All-from_get_or (λ b. b < 128) text 0 (λ i lt. (h i lt).0)))
    ∙ map-same text (λ k lt. (h k lt).1)

-- what an iterator gave until it ended is all that it gives
pub drained : {S : Type 0} {steps : S → Option ℕ → S → Type 0} (s it : S) (xs all : List ℕ) → it ≡ s → Drains steps it xs → YieldsList steps (λ x. x) s all → xs ≡ all
drained {S} {steps} s it xs all same d e =
    let here = subst (λ (z : S). Drains steps z xs) same d in
    sym (map-id xs) ∙ items_from_drains {steps = steps} {v = λ x. x} {s = s} {all = all} xs (here.1.0, here.1.1, λ _. (here.0, here.1.2)) e
