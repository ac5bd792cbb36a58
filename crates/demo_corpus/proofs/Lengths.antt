-- Generated texts are short.
use Rattle.std.proofs.Common.{ℕ, zero, suc, ◌+◌, ◌*◌, ◌-◌, ◌/◌, ◌%◌, ◌≤◌, ◌<◌, ◌==◌, true, false, List, [], ◌∷◌, ◌++◌, length, replicate, arith, lit<, lit≤, slice_index_or, encode_utf8_all, decimal, length-append}
use Rattle.std.proofs.lemmas.List.{length-replicate}
use Rattle.std.proofs.lemmas.Str.{length-encode, len_utf8_bounds}
use Rattle.std.proofs.lemmas.Fmt.{length-decimal-le}
use Rattle.std.specs.Bool.{if◌then◌else◌}
use Rattle.std.specs.Char.{encode_utf8}
use Rattle.span_token.specs.Limits.{text_limit}
use Rattle.demo_corpus.specs.Sentences.{sentences, sentence_of}
use Rattle.demo_corpus.specs.Generator.{placed, filled, four_digits, pattern_of, generated}

encode-short : (c : ℕ) → length (encode_utf8 c) ≤ 4
encode-short c = omega (arith, length-encode c, (len_utf8_bounds c).1)

encodes-short : (cs : List ℕ) → length (encode_utf8_all cs) ≤ 4 * length cs
encodes-short [] = lit≤ tt
encodes-short (c ∷ cs) = omega (arith, length-append (encode_utf8 c) (encode_utf8_all cs), encode-short c, encodes-short cs)

placed-short : (number : List ℕ) (c : ℕ) → length number ≤ 4 → length (placed number c) ≤ 4
placed-short number c short = elim (c == 35) as (λ test. length (if test then number else c ∷ []) ≤ 4) [ true ↦ short | false ↦ lit≤ tt ]

filled-short : (number sentence : List ℕ) → length number ≤ 4 → length (filled number sentence) ≤ 4 * length sentence
filled-short number [] short = lit≤ tt
filled-short number (c ∷ cs) short = omega (arith, length-append (placed number c) (filled number cs), placed-short number c short, filled-short number cs short)

four_digits-short : (n : ℕ) → n < 10000 → length (four_digits n) ≤ 4
four_digits-short n few =
    let digits : length (decimal n) ≤ 4 = length-decimal-le 4 n (lit< tt) few (omega arith) in
    omega (arith, length-append (replicate (4 - length (decimal n)) 48) (decimal n), length-replicate {A = ℕ} (4 - length (decimal n)) 48, digits)

short_at : (k : ℕ) → length (slice_index_or sentences k []) ≤ 64
short_at zero = lit≤ tt
short_at (suc zero) = lit≤ tt
short_at (suc (suc zero)) = lit≤ tt
short_at (suc (suc (suc zero))) = lit≤ tt
short_at (suc (suc (suc (suc zero)))) = lit≤ tt
short_at (suc (suc (suc (suc (suc zero))))) = lit≤ tt
short_at (suc (suc (suc (suc (suc (suc zero)))))) = lit≤ tt
short_at (suc (suc (suc (suc (suc (suc (suc zero))))))) = lit≤ tt
short_at (suc (suc (suc (suc (suc (suc (suc (suc k)))))))) = lit≤ tt

sentence-short : (n : ℕ) → length (sentence_of n) ≤ 64
unfolding sentence_of
sentence-short n = short_at (n % 8)

three-short : (a b c : List ℕ) → length a ≤ 64 → length b ≤ 64 → length c ≤ 64 → length (a ++ 32 ∷ [] ++ b ++ 32 ∷ [] ++ c) ≤ 194
three-short a b c p q r =
    omega (arith, length-append a (32 ∷ []), length-append (a ++ 32 ∷ []) b, length-append (a ++ 32 ∷ [] ++ b) (32 ∷ []), length-append (a ++ 32 ∷ [] ++ b ++ 32 ∷ []) c)

-- far below what a document may have
pub generated-short : (i : ℕ) → length ((generated i).text) ≤ text_limit
unfolding generated
generated-short i =
    let number = four_digits (i % 10000) in
    let sentences_short = three-short (sentence_of i) (sentence_of (3 * i + 1)) (sentence_of (5 * i + 2 + i / 8)) (sentence-short i) (sentence-short (3 * i + 1)) (sentence-short (5 * i + 2 + i / 8)) in
    let few : i % 10000 < 10000 = omega arith in
    omega (arith, encodes-short (filled number (pattern_of i)), filled-short number (pattern_of i) (four_digits-short (i % 10000) few), sentences_short)
