-- The product of the greatest chains, counted up to the limit.
use Rattle.std.proofs.Common.{◌≡◌, ℕ, zero, suc, ◌*◌, ◌<◌, ◌≤◌, max, All, List, [], ◌∷◌, length, get_or, slice_index, refl, sym, ap, ap₂, ◌∙◌, inl, inr, arith}
use Rattle.std.proofs.lemmas.Bool.{cases_lt}
use Rattle.std.proofs.lemmas.List.{get_or_past, get_or_default}
use Rattle.std.proofs.Math.Nat.{mul-one}
use Rattle.aql_regex_extract.specs.Weight.{product_below}
use Rattle.aql_regex_extract.specs.Capped.{capped, IsCounted}
use Rattle.aql_regex_extract.proofs.Counts.{capped-mul, capped-mul-right}

product_below-alike : (f g : ℕ → ℕ) (n : ℕ) → ((k : ℕ) → k < n → capped (f k) ≡ capped (g k)) → capped (product_below f n) ≡ capped (product_below g n)
product_below-alike f g zero h = refl
product_below-alike f g (suc n) h =
    let before = product_below-alike f g n (λ k lt. h k (omega arith)) in
    sym (capped-mul (product_below f n) (f n)) ∙ sym (capped-mul-right (capped (product_below f n)) (f n))
    ∙ ap₂ (λ a b. capped (a * b)) before (h n (omega arith))
    ∙ capped-mul-right (capped (product_below g n)) (g n) ∙ capped-mul (product_below g n) (g n)

product_below-ones : (f : ℕ → ℕ) (n m : ℕ) → n ≤ m → ((k : ℕ) → n ≤ k → f k ≡ 1) → product_below f m ≡ product_below f n
product_below-ones f n zero h ones = let same : n ≡ 0 = omega arith in ap (product_below f) (sym same)
product_below-ones f n (suc m) h ones = elim (cases_lt m n) [
  | inl lt ↦ let same : suc m ≡ n = omega arith in ap (product_below f) same
  | inr ge ↦ ap₂ (λ a b. a * b) (product_below-ones f n m ge ones) (ones m ge) ∙ mul-one _
]

-- numbers that are counted, and agree with a function at each depth, have its product
pub product-greatest : (counted : List ℕ) (g : ℕ → ℕ) (m : ℕ) → length counted ≤ m → All IsCounted counted →
    ((d : ℕ) → max (get_or counted d 1) (capped 1) ≡ capped (g d)) →
    capped (product_below (slice_index counted) (length counted)) ≡ capped (product_below g m)
product-greatest counted g m fits all kept =
    let f : ℕ → ℕ = λ d. get_or counted d 1 in
    product_below-alike (slice_index counted) f (length counted) (λ k lt. ap capped (get_or_default counted k 0 1 lt))
    ∙ ap capped (sym (product_below-ones f (length counted) m fits (λ k ge. get_or_past counted k 1 ge)))
    ∙ product_below-alike f g m (λ k lt. elim (cases_lt k (length counted)) [
      | inl here ↦ omega (arith, kept k, all k 1 here)
      | inr past ↦ omega (arith, kept k, get_or_past counted k 1 past)
    ])

-- the one depth that is there at the start
pub one_depth : (d : ℕ) → get_or {A = ℕ} (1 ∷ []) d 1 ≡ 1
one_depth d = elim (cases_lt d 1) [
  | inl lt ↦ let first : d ≡ 0 = omega arith in ap (λ (k : ℕ). get_or {A = ℕ} (1 ∷ []) k 1) first
  | inr ge ↦ get_or_past (1 ∷ []) d 1 ge
]

pub one_counted : All IsCounted (1 ∷ [])
one_counted k d lt = let first : k ≡ 0 = omega arith in rw first (omega arith, omega arith)
