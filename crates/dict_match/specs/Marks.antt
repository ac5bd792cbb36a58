-- Marks of texts: numbers that most texts that aren't words don't share with one, found without a fold.
use Rattle.std.specs.Prelude.{◌≡◌, ℕ, ◌+◌, ◌*◌, ◌/◌, ◌%◌, List, slice_index_or}
use Rattle.std.specs.Int.{bit_at}
use Rattle.std.specs.List.{fold}

-- from the mark of a text, that of the text with one more byte at its end; the case of an ASCII letter doesn't count
abbrev pub mark_behind : ℕ → ℕ → ℕ
mark_behind mark byte = (43 * mark + byte % 32) % 262144

-- a text's mark, by all its bytes
unfoldable pub mark_of : List ℕ → ℕ
mark_of text = fold mark_behind 0 text

-- a set of marks, kept as bytes with a bit for each mark, has this one
abbrev pub HasMark : List ℕ → ℕ → Type 0
HasMark bytes mark = bit_at (slice_index_or bytes (mark / 8) 0) (mark % 8) ≡ 1
