-- What a sink gained: all of a text, or its beginning.
use Rattle.std.specs.Prelude.{ℕ, List, take, Option, Result, MatchResult}
use Rattle.std.specs.Io.KnownBytes.{Appends}

-- the sink gained all of these bytes, or, after a failed call, the first n of them for some n
abbrev pub AppendsFront : {T E : Type 0} → Option (List ℕ) → Option (List ℕ) → Result T E → List ℕ → Type 0
AppendsFront before after result bytes =
    MatchResult result (λ _. Appends before after bytes) (λ _. (n : ℕ) × Appends before after (take n bytes))
