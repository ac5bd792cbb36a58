-- The number of a word of digits, cut at one more than it may be.
use Rattle.std.proofs.Common.{◌≡◌, ℕ, suc, ◌+◌, ◌*◌, ◌-◌, ◌≤◌, ◌<◌, Bool, true, ◌&&◌, nat_le, min, List, [], ◌∷◌, length, get_or, drop, ap, sym, ◌∙◌, arith, inl, inr, Option, Some, None, if◌then◌else◌}
use Rattle.std.proofs.Math.Seq.{drop-cons}
use Rattle.std.proofs.lemmas.Bool.{cases_lt, lt-leb}
use Rattle.std.specs.Char.{is_ascii_digit}
use Rattle.std.specs.List.{list_all}
use Rattle.aqlx_top.specs.Words.{number_behind}

-- a number that is cut before more digits is cut alike behind them
pub cut_behind : (cut n : ℕ) (digits : List ℕ) → min cut (number_behind (min cut n) digits) ≡ min cut (number_behind n digits)
cut_behind cut n [] = omega arith
cut_behind cut n (digit ∷ digits) =
    let both : min cut (10 * min cut n + (digit - 48)) ≡ min cut (10 * n + (digit - 48)) = omega arith in
    sym (cut_behind cut (10 * min cut n + (digit - 48)) digits)
    ∙ ap (λ m. min cut (number_behind m digits)) both
    ∙ cut_behind cut (10 * n + (digit - 48)) digits

-- one more digit
pub one_more : (cut : ℕ) (word : List ℕ) (i number next : ℕ) → i < length word → next ≡ min (10 * number + (get_or word i 0 - 48)) cut
    → min cut (number_behind next (drop (i + 1) word)) ≡ min cut (number_behind number (drop i word))
one_more cut word i number next below is_cut =
    let rest = drop (i + 1) word in
    let digit = get_or word i 0 in
    let as_cut : next ≡ min cut (10 * number + (digit - 48)) = omega (arith, is_cut) in
    let next_is : suc i ≡ i + 1 = omega arith in
    let front : drop i word ≡ digit ∷ rest = drop-cons word i 0 below ∙ ap (λ n. digit ∷ drop n word) next_is in
    ap (λ n. min cut (number_behind n rest)) as_cut ∙ cut_behind cut (10 * number + (digit - 48)) rest ∙ ap (λ digits. min cut (number_behind number digits)) (sym front)

pub all_behind : (word : List ℕ) (i : ℕ) → i < length word → true ≡ is_ascii_digit (get_or word i 0) → list_all is_ascii_digit (drop i word) ≡ list_all is_ascii_digit (drop (i + 1) word)
all_behind word i below passes =
    let digit = get_or word i 0 in
    let next_is : suc i ≡ i + 1 = omega arith in
    ap (list_all is_ascii_digit) (drop-cons word i 0 below ∙ ap (λ n. digit ∷ drop n word) next_is) ∙ ap (λ b. b && list_all is_ascii_digit (drop (i + 1) word)) (sym passes)

-- what is answered for a number
abbrev within : ℕ → ℕ → Option ℕ
within most v = if nat_le v most then Some v else None

-- cut or not, it is within the bound or not
pub cut_within : (most n v : ℕ) → n ≡ min (most + 1) v → within most n ≡ within most v
cut_within most n v cut = elim (cases_lt v (most + 1)) [
  | inl below ↦ let same : n ≡ v = omega (arith, cut) in ap (within most) same
  | inr above ↦ let same : n ≡ most + 1 = omega (arith, cut) in
      ap (within most) same ∙ past (most + 1) (omega arith) ∙ sym (past v above)
]
  where
    past : (v : ℕ) → most + 1 ≤ v → within most v ≡ None
    past v above = ap (λ (b : Bool). if b then Some v else None) (lt-leb v most (omega arith))
