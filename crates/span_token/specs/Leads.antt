-- Where characters begin among the bytes of a text.
use Rattle.std.specs.Prelude.{ℕ, ◌≡◌, Bool, ◌||◌, List, take, count_by, nat_lt, nat_le, IsCharBoundary}

-- a byte that begins a character
abbrev pub begins_char : ℕ → Bool
begins_char byte = nat_lt byte 128 || nat_le 192 byte

-- how many characters begin in these bytes
abbrev pub leads : List ℕ → ℕ
leads bytes = count_by begins_char bytes

-- `byte` is where the character `place` begins, or the end where no such character is left
pub record IsPlace (text : List ℕ) (place byte : ℕ) : Type 0 where
  pub passed : leads (take byte text) ≡ place
  pub boundary : IsCharBoundary text byte
