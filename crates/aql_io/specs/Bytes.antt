-- What reads of named files give, and what a flush does to the bytes that a sink holds.
use Rattle.std.specs.Prelude.{◌≡◌, ℕ, ◌<◌, ◌≤◌, List, length, take, drop, ⊤, Option, Result, IfSome, IsSomeAnd, MatchResult}

-- the bytes of each name that is held
abbrev pub Names : Type 0
Names = List ℕ → Option (List ℕ)

-- a read at a place gives the file's next bytes there, and none only at or past its end or with no room
abbrev pub ReadsAt : {E : Type 0} → Option (List ℕ) → ℕ → Result ℕ E → List ℕ → Type 0
ReadsAt file at result buf = MatchResult result
    (λ n. IsSomeAnd file (λ bytes.
    (take n buf ≡ take n (drop at bytes)) × (n ≤ length (drop at bytes)) × (n ≡ 0 → 0 < length buf → length bytes ≤ at)))
    (λ _. ⊤)

-- after a flush all bytes that the sink holds are flushed; after a failed one as many as before
abbrev pub Flushes : {T E : Type 0} → Option (List ℕ) → ℕ → ℕ → Result T E → Type 0
Flushes held before now result = MatchResult result (λ _. IfSome held (λ bytes. now ≡ length bytes)) (λ _. now ≡ before)
