-- What contracts see of a file that is read at places.
use Rattle.std.specs.Prelude.{ℕ, ◌+◌, ◌-◌, ◌^◌, min}

-- the file, the place in bytes, from 0, of what is read next, and how many reads failed
pub record Placed (File : Type 0) : Type 0 where
  pub file : File
  pub at : ℕ
  pub faults : ℕ

-- the place so many bytes behind one, which stops at the last one, 2^64 - 1
abbrev pub behind : ℕ → ℕ → ℕ
behind at n = min (at + n) (2 ^ 64 - 1)
