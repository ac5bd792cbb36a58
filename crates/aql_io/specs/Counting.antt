-- What contracts see of an adapter over an object of std.
use Rattle.std.specs.Prelude.{ℕ}

-- the object, and how many of its calls failed
pub record Counting (Inner : Type 0) : Type 0 where
  pub inner : Inner
  pub faults : ℕ
