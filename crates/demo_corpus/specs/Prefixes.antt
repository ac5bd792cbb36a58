-- What a sink gained of a text that was to be written.
use Rattle.std.specs.Prelude.{◌≡◌, ℕ, List, ◌++◌, take, Option, Result, Ok, Err, MatchResult}
use Rattle.std.specs.Io.KnownBytes.{Appends}
use Rattle.aql_io.specs.Causes.{Rose}
use Rattle.aql_io.specs.declared.failed.Failed.{Failed}
use Rattle.span_token.specs.declared.refusal.Failure.{Failure}
use Rattle.span_token.specs.declared.refusal.Failure.TheVariants.{OutOfMemory, Fault}

-- the sink gained the text, but for the rest that stands at its end
pub record GainsAllBut (rest : List ℕ) (before after : Option (List ℕ)) (text : List ℕ) : Type 0 where
  pub front : List ℕ
  pub whole : text ≡ front ++ rest
  pub gained : Appends before after front

-- the sink gained the first n bytes of the text, for some n
abbrev pub GainsFront : Option (List ℕ) → Option (List ℕ) → List ℕ → Type 0
GainsFront before after text = (n : ℕ) × Appends before after (take n text)

-- the sink gained the text, or after a refusal the first n bytes of it for some n
abbrev pub AppendsFront : {T E : Type 0} → Option (List ℕ) → Option (List ℕ) → Result T E → List ℕ → Type 0
AppendsFront before after result text =
    MatchResult result (λ _. Appends before after text) (λ _. (n : ℕ) × Appends before after (take n text))

-- the fault is told where the count of faults rose, and with any other answer the count stands
abbrev pub HasWriteCause : {T : Type 0} → ℕ → ℕ → Result T (Failure Failed) → Type 0
HasWriteCause before now (Ok _) = now ≡ before
HasWriteCause before now (Err OutOfMemory) = now ≡ before
HasWriteCause before now (Err (Fault _)) = Rose before now
