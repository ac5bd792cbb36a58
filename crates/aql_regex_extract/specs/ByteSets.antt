-- Sets of bytes.
use Rattle.std.specs.Prelude.{◌≡◌, ℕ, Bool, true, false, slice_index_or}
use Rattle.aql_regex_extract.specs.declared.byte_set.ByteSet.{ByteSet}

-- whether the byte is in the set
abbrev pub has : ByteSet → ℕ → Bool
has set b = slice_index_or set.flags b false

abbrev pub Has : ByteSet → ℕ → Type 0
Has set b = has set b ≡ true

-- the new set has each byte of the old one
abbrev pub Widens : ByteSet → ByteSet → Type 0
Widens old new = (b : ℕ) → Has old b → Has new b
