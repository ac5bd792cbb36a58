-- The number at the front of a text: its digits, its value, and what `parse` says of them.
use Rattle.std.proofs.Common.{◌≡◌, ℕ, zero, suc, ◌+◌, ◌-◌, ◌<◌, ◌≤◌, ℤ, pos, negsuc, Bool, true, false, List, [], ◌∷◌, length, take, drop, get_or, Result, Ok, Err, MatchResult, SFits, w64, refl, sym, inl, inr, ◌==◌, arith, one-add, zero-add}
use Rattle.std.specs.Char.{is_ascii_digit, digit_value}
use Rattle.std.specs.List.{prefix_len, AllPass}
use Rattle.std.specs.Str.{IsUtf8, IsCharBoundary}
use Rattle.std.specs.Str.Parse.{AllDigits, IsNumeral, ParsesSigned, signed_digits_value, without_leading_sign}
use Rattle.std.proofs.lemmas.Bool.Decides.{nat_tests}
use Rattle.std.proofs.lemmas.Bool.{lt-ltb, ltb-true}
use Rattle.std.proofs.lemmas.List.{get_or-drop}
use Rattle.std.proofs.lemmas.List.Sums.{prefix_len-drop_yes, prefix_len_passes}
use Rattle.std.proofs.lemmas.Str.{IsCharBoundary-after_ascii}
use Rattle.aql_lexer.proofs.Runs.{run_passes, length-run}
use Rattle.aql_lexer.specs.Scanning.{IsSign, fits_i64}

-- a run of ASCII bytes ends where the text may be cut
pub run_end : (passes : ℕ → Bool) → ((b : ℕ) → passes b ≡ true → b < 128) → (text : List ℕ) (from : ℕ) → IsUtf8 text → 0 < prefix_len passes (drop from text) → from + prefix_len passes (drop from text) ≤ length text → IsCharBoundary text (from + prefix_len passes (drop from text))
run_end passes ascii text from utf8 some fits =
    let n = prefix_len passes (drop from text) in
    let last = prefix_len_passes passes (drop from text) (n - 1) 0 (omega arith) in
    let small : get_or text (from + (n - 1)) 0 < 128 = rw (← get_or-drop) (ascii _ last) in
    let e : from + (n - 1) + 1 ≡ from + n = omega arith in
    rw (← e) (IsCharBoundary-after_ascii text (from + (n - 1)) utf8 (omega arith) small)

pub digit_is_ascii : (b : ℕ) → is_ascii_digit b ≡ true → b < 128
digit_is_ascii b h = grind (arith, nat_tests)

digit_value_small : (b : ℕ) → is_ascii_digit b ≡ true → digit_value b < 10
digit_value_small b h = grind (arith, nat_tests)

pub digits_are_digits : (ds : List ℕ) → AllPass is_ascii_digit ds → AllDigits 10 ds
digits_are_digits [] h = tt
digits_are_digits (b ∷ bs) h = (digit_value_small b (h 0 0 (omega arith)), digits_are_digits bs (λ k d l. h (suc k) d (omega arith)))

pub fits-true : (z : ℤ) → SFits w64 z → fits_i64 z ≡ true
fits-true (pos n) h = lt-ltb n _ h.sfits
fits-true (negsuc n) h = lt-ltb n _ h.sfits

pub fits-false : (z : ℤ) → fits_i64 z ≡ true → SFits w64 z
fits-false (pos n) h = record { sfits = ltb-true n _ h }
fits-false (negsuc n) h = record { sfits = ltb-true n _ h }

no_sign : (b : ℕ) → is_ascii_digit b ≡ true → ((b == 45) ≡ false) × ((b == 43) ≡ false)
no_sign b h = (grind (arith, nat_tests), grind (arith, nat_tests))

pub some_digits : (ds : List ℕ) → AllPass is_ascii_digit ds → 0 < length ds → IsNumeral 10 (without_leading_sign ds)
some_digits [] h l = absurd (omega arith)
some_digits (b ∷ bs) h l =
    let e = no_sign b (h 0 0 (omega arith)) in
    rw (e.0, e.1) (l, digits_are_digits (b ∷ bs) h)

minus_taken : (bs : List ℕ) → 0 < prefix_len is_ascii_digit bs → IsNumeral 10 (without_leading_sign (take (1 + prefix_len is_ascii_digit bs) (45 ∷ bs)))
minus_taken bs some = rw one-add (omega (arith, length-run is_ascii_digit bs), digits_are_digits _ (run_passes is_ascii_digit bs))

-- the taken bytes are a number, without their sign
pub numeral_taken : (sign : ℕ) (z : List ℕ) → IsSign sign z → 0 < prefix_len is_ascii_digit (drop sign z) → IsNumeral 10 (without_leading_sign (take (sign + prefix_len is_ascii_digit (drop sign z)) z))
numeral_taken zero z signed some =
    rw zero-add (some_digits (take (prefix_len is_ascii_digit z) z) (run_passes is_ascii_digit z) (omega (arith, length-run is_ascii_digit z)))
numeral_taken (suc n) z (inl e) some = absurd (omega arith)
numeral_taken (suc n) [] (inr e) some = absurd (omega arith)
numeral_taken (suc zero) (b ∷ bs) (inr e) some = rw e.1 (minus_taken bs some)
numeral_taken (suc (suc n)) (b ∷ bs) (inr e) some = absurd (omega arith)

unfit : (b : Bool) → ¬ (b ≡ true) → b ≡ false
unfit true not_true = absurd (not_true refl)
unfit false not_true = refl

-- what `parse` gives of such bytes
pub parsed : {E : Type 0} → (bs : List ℕ) (r : Result ℤ E) → IsNumeral 10 (without_leading_sign bs) → ParsesSigned w64 10 bs r → MatchResult r (λ x. (fits_i64 (signed_digits_value 10 bs) ≡ true) × (signed_digits_value 10 bs ≡ x)) (λ _. fits_i64 (signed_digits_value 10 bs) ≡ false)
parsed bs (Ok x) numeral h = (fits-true _ h.0.1, sym h.1)
parsed bs (Err e) numeral h = unfit (fits_i64 (signed_digits_value 10 bs)) (λ fits. h (numeral, fits-false _ fits))

-- the digit at the front begins a run
pub run_begun : (passes : ℕ → Bool) (z : List ℕ) (from : ℕ) → from < length z → passes (get_or z from 0) ≡ true → 0 < prefix_len passes (drop from z)
run_begun passes z from within h = omega (arith, prefix_len-drop_yes passes z from 0 within h)
