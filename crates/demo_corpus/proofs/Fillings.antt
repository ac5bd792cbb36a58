-- Sentences with their number, as bytes.
use Rattle.std.proofs.Common.{◌≡◌, ℕ, zero, suc, ◌+◌, ◌*◌, ◌-◌, ◌/◌, ◌%◌, ◌<◌, ◌^◌, true, false, List, [], ◌∷◌, ◌++◌, length, replicate, refl, sym, ap, ap₂, ◌∙◌, arith, lit<, slice_index_or, append-nil, IsUtf8, IsAscii, chars, encode_utf8_all, decimal, codes, Some}
use Rattle.std.proofs.lemmas.List.Concat.{flat_map-append}
use Rattle.std.proofs.lemmas.Str.{chars-nil, chars_past_char, chars-encodes, chars-IsAscii, encodes-append, encodes-chars, encode_ascii, IsAscii-append}
use Rattle.std.proofs.lemmas.Fmt.{IsAscii-decimal}
use Rattle.std.specs.Char.{encode_utf8}
use Rattle.std.specs.Fmt.{padded_integral, format_spec, char_count}
use Rattle.span_token.specs.Documents.{Doc}
use Rattle.demo_corpus.specs.Sentences.{sentences, sentence_of}
use Rattle.demo_corpus.specs.Generator.{placed, filled, four_digits, pattern_of, generated}
use lib.Utf8.{scalars}

-- a character, and then the rest of its sentence
pub filled_more : (number bytes rest : List ℕ) (c : ℕ) → IsUtf8 bytes → bytes ≡ encode_utf8 c ++ rest
    → encode_utf8_all (filled number (chars bytes)) ≡ encode_utf8_all (placed number c) ++ encode_utf8_all (filled number (chars rest))
filled_more number bytes rest c text parts =
    ap (λ cs. encode_utf8_all (filled number cs)) (chars_past_char bytes rest c text parts) ∙ encodes-append (placed number c) (filled number (chars rest))

-- what `{:04}` writes
pub four_digits_is : (n : ℕ) → padded_integral (format_spec 32 0 4 4 (2 ^ 64 - 1)) false [] (decimal n) ≡ four_digits n
unfolding padded_integral char_count
four_digits_is n =
    let zeros : 4 - length (decimal n) - 0 - 0 ≡ 4 - length (decimal n) = omega arith in
    ap₂ (λ k digits. replicate k 48 ++ digits) zeros (append-nil (decimal n))

IsAscii-zero : IsAscii (48 ∷ [])
IsAscii-zero zero = lit< tt
IsAscii-zero (suc i) = lit< tt

IsAscii-zeros : (k : ℕ) → IsAscii (replicate k 48)
IsAscii-zeros zero = λ i. lit< tt
IsAscii-zeros (suc k) = IsAscii-append (48 ∷ []) (replicate k 48) (IsAscii-zero) (IsAscii-zeros k)

pub chars-four_digits : (n : ℕ) → n < 2 ^ 64 → chars (four_digits n) ≡ four_digits n
chars-four_digits n fits = chars-IsAscii (four_digits n) (IsAscii-append (replicate (4 - length (decimal n)) 48) (decimal n) (IsAscii-zeros (4 - length (decimal n))) (IsAscii-decimal n fits))

-- the sentences are characters
scalars_at : (k : ℕ) → scalars (slice_index_or sentences k []) ≡ true
scalars_at zero = refl
scalars_at (suc zero) = refl
scalars_at (suc (suc zero)) = refl
scalars_at (suc (suc (suc zero))) = refl
scalars_at (suc (suc (suc (suc zero)))) = refl
scalars_at (suc (suc (suc (suc (suc zero))))) = refl
scalars_at (suc (suc (suc (suc (suc (suc zero)))))) = refl
scalars_at (suc (suc (suc (suc (suc (suc (suc zero))))))) = refl
scalars_at (suc (suc (suc (suc (suc (suc (suc (suc k)))))))) = refl

pub chars-sentence : (k : ℕ) → chars (encode_utf8_all (sentence_of k)) ≡ sentence_of k
unfolding sentence_of
chars-sentence k = chars-encodes (slice_index_or sentences (k % 8) []) (scalars_at (k % 8))

-- a space that stands for itself
space : (number : List ℕ) → encode_utf8_all (filled number (32 ∷ [])) ≡ 32 ∷ []
unfolding encode_utf8
space number = refl

two : (number a b : List ℕ) → encode_utf8_all (filled number (a ++ b)) ≡ encode_utf8_all (filled number a) ++ encode_utf8_all (filled number b)
two number a b = ap encode_utf8_all (flat_map-append (placed number) a b) ∙ encodes-append (filled number a) (filled number b)

-- three sentences with spaces between them
pub three : (number a b c : List ℕ) → encode_utf8_all (filled number (a ++ 32 ∷ [] ++ b ++ 32 ∷ [] ++ c))
    ≡ encode_utf8_all (filled number a) ++ 32 ∷ [] ++ encode_utf8_all (filled number b) ++ 32 ∷ [] ++ encode_utf8_all (filled number c)
three number a b c =
    two number (a ++ 32 ∷ [] ++ b ++ 32 ∷ []) c
    ∙ ap (λ bytes. bytes ++ encode_utf8_all (filled number c))
    (two number (a ++ 32 ∷ [] ++ b) (32 ∷ [])
    ∙ ap₂ (λ front last. front ++ last)
    (two number (a ++ 32 ∷ []) b ∙ ap (λ bytes. bytes ++ encode_utf8_all (filled number b)) (two number a (32 ∷ []) ∙ ap (λ bytes. encode_utf8_all (filled number a) ++ bytes) (space number)))
    (space number))

-- nothing stands for the end of a sentence
pub filled_none : (number bytes : List ℕ) → length bytes ≡ 0 → encode_utf8_all (filled number (chars bytes)) ≡ []
filled_none number [] none = rw chars-nil
filled_none number (b ∷ bytes) none = absurd (omega arith)

-- what a sentence's bytes become
pub filled_sentence : (number bytes : List ℕ) (k : ℕ) → bytes ≡ encode_utf8_all (sentence_of k) → encode_utf8_all (filled number (chars bytes)) ≡ encode_utf8_all (filled number (sentence_of k))
filled_sentence number bytes k is = ap (λ cs. encode_utf8_all (filled number cs)) (ap chars is ∙ chars-sentence k)

-- what stands for `#`
pub placed_number : (number : List ℕ) (c : ℕ) → IsUtf8 number → c ≡ 35 → encode_utf8_all (placed (chars number) c) ≡ number
placed_number number c text is = ap (λ k. encode_utf8_all (placed (chars number) k)) is ∙ encodes-chars number text

-- a text that grew by three sentences and two spaces
pub pieces : (number : List ℕ) (i : ℕ) (t0 t1 t2 t3 t4 t5 s1 s2 s3 : List ℕ) → t0 ≡ []
    → t1 ≡ t0 ++ encode_utf8_all (filled number (chars s1)) → s1 ≡ encode_utf8_all (sentence_of i) → t2 ≡ t1 ++ encode_utf8 32
    → t3 ≡ t2 ++ encode_utf8_all (filled number (chars s2)) → s2 ≡ encode_utf8_all (sentence_of (3 * i + 1)) → t4 ≡ t3 ++ encode_utf8 32
    → t5 ≡ t4 ++ encode_utf8_all (filled number (chars s3)) → s3 ≡ encode_utf8_all (sentence_of (5 * i + 2 + i / 8))
    → t5 ≡ encode_utf8_all (filled number (pattern_of i))
pieces number i t0 t1 t2 t3 t4 t5 s1 s2 s3 e0 e1 is1 e2 e3 is2 e4 e5 is3 =
    let one_space : encode_utf8 32 ≡ 32 ∷ [] = encode_ascii 32 (lit< tt) in
    let a = encode_utf8_all (filled number (sentence_of i)) in
    let b = encode_utf8_all (filled number (sentence_of (3 * i + 1))) in
    let x1 : t1 ≡ a = e1 ∙ ap₂ (λ (front more : List ℕ). front ++ more) e0 (filled_sentence number s1 i is1) in
    let x2 : t2 ≡ a ++ 32 ∷ [] = e2 ∙ ap₂ (λ (front more : List ℕ). front ++ more) x1 one_space in
    let x3 : t3 ≡ a ++ 32 ∷ [] ++ b = e3 ∙ ap₂ (λ (front more : List ℕ). front ++ more) x2 (filled_sentence number s2 (3 * i + 1) is2) in
    let x4 : t4 ≡ a ++ 32 ∷ [] ++ b ++ 32 ∷ [] = e4 ∙ ap₂ (λ (front more : List ℕ). front ++ more) x3 one_space in
    e5 ∙ ap₂ (λ (front more : List ℕ). front ++ more) x4 (filled_sentence number s3 (5 * i + 2 + i / 8) is3)
    ∙ sym (three number (sentence_of i) (sentence_of (3 * i + 1)) (sentence_of (5 * i + 2 + i / 8)))

-- a document of its parts
pub generated_is : (i : ℕ) (number label text : List ℕ) → number ≡ four_digits (i % 10000) → label ≡ codes "d" ++ decimal i
    → text ≡ encode_utf8_all (filled (chars number) (pattern_of i)) → let document : Doc = record { text = text; label = Some label } in document ≡ generated i
unfolding generated
generated_is i number label text is_number is_label is_text =
    let few : i % 10000 < 2 ^ 64 = omega arith in
    ap₂ (λ (bytes name : List ℕ). record { text = bytes; label = Some name })
    (is_text ∙ ap (λ (digits : List ℕ). encode_utf8_all (filled digits (pattern_of i))) (ap chars is_number ∙ chars-four_digits (i % 10000) few))
    is_label
