-- The generated documents, one for each number from 0.
use Rattle.std.specs.Prelude.{ℕ, ◌+◌, ◌*◌, ◌-◌, ◌/◌, ◌%◌, ◌==◌, List, [], ◌∷◌, ◌++◌, Some, codes, length, map, replicate, if◌then◌else◌, encode_utf8_all}
use Rattle.std.specs.Fmt.{decimal}
use Rattle.std.specs.List.{flat_map, range_with_len}
use Rattle.span_token.specs.Documents.{Doc}
use Rattle.demo_corpus.specs.Sentences.{sentence_of}

-- a number in decimal, with zeros before it where it has fewer than four digits
abbrev pub four_digits : ℕ → List ℕ
four_digits n = replicate (4 - length (decimal n)) 48 ++ decimal n

-- what stands for a character of a sentence: for `#` the number, for any other itself
abbrev pub placed : List ℕ → ℕ → List ℕ
placed number c = if c == 35 then number else c ∷ []

-- a sentence with the number in place of each `#`
abbrev pub filled : List ℕ → List ℕ → List ℕ
filled number sentence = flat_map (placed number) sentence

-- the three sentences of document i, with a space between two
abbrev pub pattern_of : ℕ → List ℕ
pattern_of i = sentence_of i ++ 32 ∷ [] ++ sentence_of (3 * i + 1) ++ 32 ∷ [] ++ sentence_of (5 * i + 2 + i / 8)

-- document i: its label is `d` and its number, its text the three sentences with the number's last four digits
unfoldable pub generated : ℕ → Doc
generated i = record { text = encode_utf8_all (filled (four_digits (i % 10000)) (pattern_of i)); label = Some (codes "d" ++ decimal i) }

-- the first documents, in the order of their numbers
abbrev pub first_documents : ℕ → List Doc
first_documents count = map generated (range_with_len 0 count)
