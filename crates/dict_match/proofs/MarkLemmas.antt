-- Marks of texts: an ASCII text has the mark of its folding, and a set keeps its marks when it gets one more.
use Rattle.std.proofs.Common.{◌≡◌, ◌∙◌, inl, inr, ℕ, ◌+◌, ◌*◌, ◌/◌, ◌%◌, ◌^◌, ◌<◌, ◌⊎◌, Bool, true, false, cond, nat_lt, List, [], ◌∷◌, length, map, get_or, Option, Some, None, IsAscii, refl, sym, ap, subst, arith}
use Rattle.std.specs.Char.{to_ascii_lowercase}
use Rattle.std.specs.List.{fold}
use Rattle.std.specs.HashMap.{get_by_text}
use Rattle.std.specs.Int.{bit_at}
use Rattle.std.specs.Int.Bits.{bit_or}
use Rattle.std.proofs.Math.ListN.{set}
use Rattle.std.proofs.Math.Nat.{add-mod_right}
use Rattle.std.proofs.lemmas.Bool.{cases_eq}
use Rattle.std.proofs.lemmas.List.{get_or-set_same, get_or-set_other}
use Rattle.std.proofs.lemmas.Nat.{mod_below}
use Rattle.std.proofs.lemmas.Nat.Bits.{bit_at_or, bit_at-lt, bit_at-pow_same}
use Rattle.dict_match.specs.declared.trie.Trie.{Trie}
use Rattle.dict_match.specs.Dictionaries.{folded}
use Rattle.dict_match.specs.Marks.{HasMark, mark_of, mark_behind}
use Rattle.dict_match.specs.Tries.{IsNumbered}
use Rattle.dict_match.proofs.FoldLemmas.{folded-ascii}

lower_by : (b : ℕ) (x y : Bool) → cond x b (cond y (b + 32) b) % 32 ≡ b % 32
lower_by b true y = refl
lower_by b false true = add-mod_right b 32
lower_by b false false = refl

-- the case of a letter doesn't count
lower-mod : (b : ℕ) → to_ascii_lowercase b % 32 ≡ b % 32
lower-mod b = lower_by b (nat_lt b 65) (nat_lt b 91)

mark_lower_from : (mark : ℕ) (text : List ℕ) → fold mark_behind mark (map to_ascii_lowercase text) ≡ fold mark_behind mark text
mark_lower_from mark [] = refl
mark_lower_from mark (b ∷ bs) =
    ap (λ (m : ℕ). fold mark_behind m (map to_ascii_lowercase bs)) (ap (λ (k : ℕ). (43 * mark + k) % 262144) (lower-mod b))
    ∙ mark_lower_from (mark_behind mark b) bs

mark_lower : (text : List ℕ) → mark_of (map to_ascii_lowercase text) ≡ mark_of text
unfolding mark_of
mark_lower text = mark_lower_from 0 text

pub mark-folded : (text : List ℕ) → IsAscii text → mark_of (folded text) ≡ mark_of text
mark-folded text ascii = ap mark_of (folded-ascii text ascii) ∙ mark_lower text

mark_below_from : (mark : ℕ) (text : List ℕ) → mark < 262144 → fold mark_behind mark text < 262144
mark_below_from mark [] below = below
mark_below_from mark (b ∷ bs) below = mark_below_from (mark_behind mark b) bs (mod_below (43 * mark + b % 32) 262144 (omega arith))

pub mark-below : (text : List ℕ) → mark_of text < 262144
unfolding mark_of
mark-below text = mark_below_from 0 text (omega arith)

-- a bit that is set in a byte that gets one more
or_set : (a b k : ℕ) → (bit_at a k ≡ 1) ⊎ (bit_at b k ≡ 1) → bit_at (bit_or a b) k ≡ 1
or_set a b k either = elim either [
  | inl left ↦ omega (arith, bit_at_or a b k, left, bit_at-lt b k)
  | inr right ↦ omega (arith, bit_at_or a b k, right, bit_at-lt a k)
]

module _ (bytes : List ℕ) (mark : ℕ) (there : mark / 8 < length bytes) where
  abbrev with_bit : List ℕ
  with_bit = set bytes (mark / 8) (bit_or (get_or bytes (mark / 8) 0) (2 ^ (mark % 8)))

  pub set-itself : HasMark with_bit mark
  set-itself =
      ap (λ (b : ℕ). bit_at b (mark % 8)) (get_or-set_same bytes (mark / 8) (bit_or (get_or bytes (mark / 8) 0) (2 ^ (mark % 8))) 0 there)
      ∙ or_set (get_or bytes (mark / 8) 0) (2 ^ (mark % 8)) (mark % 8) (inr (bit_at-pow_same (mark % 8)))

  -- it has the marks that it had
  pub set-kept : (other : ℕ) → HasMark bytes other → HasMark with_bit other
  set-kept other is = elim (cases_eq (other / 8) (mark / 8)) [
    | inl same ↦
        ap (λ (n : ℕ). bit_at (get_or with_bit n 0) (other % 8)) same
        ∙ ap (λ (b : ℕ). bit_at b (other % 8)) (get_or-set_same bytes (mark / 8) (bit_or (get_or bytes (mark / 8) 0) (2 ^ (mark % 8))) 0 there)
        ∙ or_set (get_or bytes (mark / 8) 0) (2 ^ (mark % 8)) (other % 8) (inl (ap (λ (n : ℕ). bit_at (get_or bytes n 0) (other % 8)) (sym same) ∙ is))
    | inr apart ↦ ap (λ (b : ℕ). bit_at b (other % 8)) (get_or-set_other_value bytes (mark / 8) (other / 8) apart) ∙ is
  ] where
    get_or-set_other_value : (bs : List ℕ) (i j : ℕ) → (j ≡ i → ⊥) → get_or (set bs i (bit_or (get_or bytes (mark / 8) 0) (2 ^ (mark % 8)))) j 0 ≡ get_or bs j 0
    get_or-set_other_value bs i j apart = get_or-set_other bs i j (bit_or (get_or bytes (mark / 8) 0) (2 ^ (mark % 8))) 0 apart

-- an ASCII text whose mark isn't among the marks is no word
pub unmarked : (trie : Trie) (text : List ℕ) → IsNumbered trie → IsAscii text → (HasMark trie.marks (mark_of text) → ⊥) → None ≡ get_by_text trie.words (folded text)
unmarked trie text numbered ascii clear = by_number (get_by_text trie.words (folded text)) refl where
  by_number : (found : Option ℕ) → get_by_text trie.words (folded text) ≡ found → None ≡ found
  by_number None is = refl
  by_number (Some word) is = absurd (clear (subst (HasMark trie.marks) (mark-folded text ascii) (numbered.marked (folded text) word is)))
