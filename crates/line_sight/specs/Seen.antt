-- What threads see of the lines that they answer: bytes that are ready, and those that are left of a source behind them.
use Rattle.std.specs.Prelude.{◌≡◌, ℕ, ◌+◌, ◌≤◌, Bool, true, false, List, ◌++◌, length, take, drop, Option, Some, IfSome, option_map}

-- the bytes that are ready, all bytes from the first of them on, where it is told what they are, and up to which place they
-- may be looked at
pub record Shown : Type 0 where
  pub ready : List ℕ
  pub all : Option (List ℕ)
  pub most : ℕ

-- what is ready and, where the source shows it, what is left behind it, if that is told
abbrev pub seen_by : Bool → List ℕ → Option (List ℕ) → Option (List ℕ)
seen_by false ready left = Some ready
seen_by true ready left = option_map (λ bytes. ready ++ bytes) left

-- the same, up to some bytes behind what is ready
abbrev pub shown_by : Bool → List ℕ → Option (List ℕ) → ℕ → Shown
shown_by looks ready left ahead = record { ready = ready; all = seen_by looks ready left; most = length ready + ahead }

-- these bytes stand in all bytes from a place on
abbrev pub StandIn : List ℕ → ℕ → List ℕ → Type 0
StandIn whole from bytes = take (length bytes) (drop from whole) ≡ bytes

-- these bytes stand there from one place to another: in those that are ready, as far as these reach, and in all, where these
-- are told
pub record StandsAt (shown : Shown) (from to : ℕ) (bytes : List ℕ) : Type 0 where
  pub long : from + length bytes ≡ to
  pub front : (k : ℕ) → k ≤ length bytes → from + k ≤ length shown.ready → take k (drop from shown.ready) ≡ take k bytes
  pub there : IfSome shown.all (λ whole. StandIn whole from bytes)

-- what one thread looked at last, and its place
pub record Sighted : Type 0 where
  pub at : ℕ
  pub bytes : List ℕ

-- it stands there, and ends no further than may be looked at
pub record Sees (shown : Shown) (sighted : Sighted) : Type 0 where
  pub within : sighted.at + length sighted.bytes ≤ shown.most
  pub stands : StandsAt shown sighted.at (sighted.at + length sighted.bytes) sighted.bytes
