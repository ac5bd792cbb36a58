-- What a run of a reader's calls gave so far.
use Rattle.std.specs.Prelude.{◌≡◌, ◌≢◌, ℕ, ◌+◌, ◌<◌, ◌≤◌, Bool, true, false, List, [], ◌∷◌, ◌++◌, length, Option, Some, MatchOption, All}
use Rattle.std.specs.Io.KnownBytes.{Consumes, IsAtEnd}
use Rattle.aql_io.specs.Causes.{Rose}
use Rattle.corpus_json.specs.declared.step.Step.{Step}
use Rattle.corpus_json.specs.declared.step.Step.TheVariants.{Line, End, Long, Failed, Limit}
use Rattle.corpus_json.specs.Limits.{corpus_limit}
use Rattle.corpus_json.specs.Lines.{HasNoLf, FirstIsTooLong, joined, lines_of}
use Rattle.corpus_json.specs.Reading.{Reading}

-- the bytes are the lines, each with its LF, and then what is ready
pub record IsGoing (bytes : List ℕ) (lines : List (List ℕ)) (ready : List ℕ) : Type 0 where
  pub whole : bytes ≡ joined lines ++ ready
  pub no_lf : All HasNoLf lines

-- the lines go on with one that is too long
pub record GoesOnTooLong (all lines : List (List ℕ)) : Type 0 where
  pub others : List (List ℕ)
  pub split : all ≡ lines ++ others
  pub first : FirstIsTooLong others

-- what the answer that stays says of all the bytes and the lines that were given
abbrev pub IsOutcome : List ℕ → List (List ℕ) → Option (List ℕ) → ℕ → ℕ → Step → Type 0
IsOutcome bytes lines left faults_first faults_now Line = ⊥
IsOutcome bytes lines left faults_first faults_now End = (lines_of true bytes ≡ lines) × IsAtEnd left × (length bytes < corpus_limit)
IsOutcome bytes lines left faults_first faults_now Long = (ended : Bool) → GoesOnTooLong (lines_of ended bytes) lines
IsOutcome bytes lines left faults_first faults_now Failed =
    (lines_of false bytes ≡ lines) × Rose faults_first faults_now × (length bytes < corpus_limit)
IsOutcome bytes lines left faults_first faults_now Limit = (lines_of false bytes ≡ lines) × (length bytes ≡ corpus_limit)

-- since the first call these bytes were taken from the source and these lines given; no read failed, or the last one did and the answer says so
pub record HasGiven (left_first left_now : Option (List ℕ)) (faults_first faults_now : ℕ) (now : Reading) (lines : List (List ℕ)) : Type 0 where
  pub bytes : List ℕ
  pub consumed : Consumes left_first left_now bytes
  pub counted : now.taken ≡ length bytes
  pub later : faults_first ≤ faults_now
  pub stands : now.last ≢ Some Failed → faults_now ≡ faults_first
  pub once : faults_now ≤ faults_first + 1
  pub so_far : MatchOption now.last (IsGoing bytes lines now.ready) (IsOutcome bytes lines left_now faults_first faults_now)

-- the lines given after one more answer
abbrev pub lines_after : List (List ℕ) → List ℕ → Step → List (List ℕ)
lines_after lines line Line = lines ++ line ∷ []
lines_after lines line End = lines
lines_after lines line Long = lines
lines_after lines line Failed = lines
lines_after lines line Limit = lines

-- whatever lines were given before, this answer goes on with the lines
abbrev pub GoesOn : Option (List ℕ) → Option (List ℕ) → ℕ → ℕ → Reading → Reading → List ℕ → Step → Type 0
GoesOn left_before left_now faults_before faults_now before now line step =
    (left_first : Option (List ℕ)) (faults_first : ℕ) (lines : List (List ℕ))
    → HasGiven left_first left_before faults_first faults_before before lines
    → HasGiven left_first left_now faults_first faults_now now (lines_after lines line step)
