-- Numbers in their order, and the columns of these numbers.
use Rattle.std.proofs.Common.{◌≡◌, ◌∙◌, ℕ, zero, suc, ◌+◌, ◌<◌, ◌≤◌, List, [], ◌∷◌, ◌++◌, map, length, get_or, refl, sym, ap, subst, arith}
use Rattle.std.specs.List.{All, range_with_len}
use Rattle.std.proofs.lemmas.List.{map-append}
use Rattle.std.proofs.lemmas.List.Elements.{All-nil, All-cons}
use Rattle.std.proofs.lemmas.List.FromFn.{length-range_with_len, get_or-range_with_len}
use Rattle.scalar_ops.specs.Expressions.{Term, column, ReadsBelow}
use Rattle.algebra.specs.ExtractionLaws.{columns_from}

last : (a n j : ℕ) → a + n ≡ j → range_with_len a (suc n) ≡ range_with_len a n ++ j ∷ []
last a zero j is = let same : a ≡ j = omega (arith, is) in ap (λ (k : ℕ). k ∷ []) same
last a (suc n) j is = ap (λ (rest : List ℕ). a ∷ rest) (last (a + 1) n j (omega (arith, is)))

-- one number more
pub counting_more : (a n j : ℕ) → a + n ≡ j → range_with_len a (n + 1) ≡ range_with_len a n ++ j ∷ []
counting_more a n j is = let on : n + 1 ≡ suc n = omega arith in ap (range_with_len a) on ∙ last a n j is

-- one column more
pub columns_more : (a n j : ℕ) → a + n ≡ j → columns_from a (n + 1) ≡ columns_from a n ++ column j ∷ []
columns_more a n j is = ap (map column) (counting_more a n j is) ∙ map-append column (range_with_len a n) (j ∷ [])

-- the first columns are there
pub numbers_below : (n width : ℕ) → n ≤ width → All (λ key. key < width) (range_with_len 0 n)
numbers_below n width enough = λ k d below.
    let short : k < n = omega (arith, below, length-range_with_len 0 n) in omega (arith, get_or-range_with_len 0 n k d short, short, enough)

-- columns one after another read below their end
single_read : (width n : ℕ) → n < width → ReadsBelow width (column n)
single_read width n below = All-cons (λ k. k < width) n [] below (All-nil (λ k. k < width))

pub columns_read : (a n width : ℕ) → a + n ≤ width → All (ReadsBelow width) (columns_from a n)
columns_read a zero width enough = All-nil (ReadsBelow width)
columns_read a (suc n) width enough =
    All-cons (ReadsBelow width) (column a) (columns_from (a + 1) n) (single_read width a (omega (arith, enough))) (columns_read (a + 1) n width (omega (arith, enough)))
