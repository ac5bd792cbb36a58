-- What a reader of lines took and gave, and what each of its answers says.
use Rattle.std.specs.Prelude.{◌≡◌, ◌≢◌, ℕ, ◌+◌, ◌-◌, ◌<◌, ◌≤◌, List, [], ◌∷◌, ◌++◌, length, drop, Option, None, Some, MatchOption, option_map, ◌⊎◌}
use Rattle.std.specs.Io.KnownBytes.{Consumes, IsAtEnd}
use Rattle.aql_io.specs.Causes.{Rose}
use Rattle.corpus_json.specs.declared.step.Step.{Step}
use Rattle.corpus_json.specs.declared.step.Step.TheVariants.{Line, End, Long, Failed, Limit}
use Rattle.corpus_json.specs.Limits.{line_limit, corpus_limit}
use Rattle.corpus_json.specs.Lines.{HasNoLf, BeginsTooLong}

-- a reading: the bytes that were taken and not given yet, how many were taken in all, and the answer that every later call gives, once it is known
pub record Reading : Type 0 where
  pub ready : List ℕ
  pub taken : ℕ
  pub last : Option Step

-- the reading stands still with this answer, and nothing is left to give
abbrev pub settled : ℕ → Step → Reading
settled taken step = record { ready = []; taken = taken; last = Some step }

-- so many bytes are passed, of those that are ready and then of those that are left of the source, which are taken by that
pub record Passed (left_before left_now : Option (List ℕ)) (before now : Reading) (count : ℕ) : Type 0 where
  pub left : left_now ≡ option_map (drop (count - length before.ready)) left_before
  pub reading : now ≡ record { ready = drop count before.ready; taken = before.taken + (count - length before.ready); last = before.last }

-- the bytes begin with the line and its LF, and go on with what the reading has ready
pub record EndsAtLf (bytes line : List ℕ) (now : Reading) : Type 0 where
  pub split : bytes ≡ line ++ 10 ∷ now.ready
  pub going : now.last ≡ None

-- the bytes are the line, some byte, and the source answered its end after them
pub record EndsAtEnd (bytes line : List ℕ) (left : Option (List ℕ)) (now : Reading) : Type 0 where
  pub whole : bytes ≡ line
  pub some : bytes ≢ []
  pub at_end : IsAtEnd left
  pub below : now.taken < corpus_limit
  pub ended : now ≡ settled now.taken End

-- no LF stands in the bytes, and they aren't too many for a line
pub record IsUnended (bytes : List ℕ) : Type 0 where
  pub no_lf : HasNoLf bytes
  pub short : length bytes ≤ line_limit

-- what each answer says of the bytes that were ready before it, with those that were taken for it:
-- they begin with the line; there are none and the source is at its end; their first line is too long;
-- a read failed before their line was whole; or the corpus has reached its limit before
abbrev pub IsAnswer : List ℕ → List ℕ → Option (List ℕ) → ℕ → ℕ → Reading → Step → Type 0
IsAnswer bytes line left before faults now Line = IsUnended line × (EndsAtLf bytes line now ⊎ EndsAtEnd bytes line left now)
IsAnswer bytes line left before faults now End = (bytes ≡ []) × IsAtEnd left × (now.taken < corpus_limit) × (now ≡ settled now.taken End)
IsAnswer bytes line left before faults now Long = BeginsTooLong bytes × (now ≡ settled now.taken Long)
IsAnswer bytes line left before faults now Failed = IsUnended bytes × Rose before faults × (now.taken < corpus_limit) × (now ≡ settled now.taken Failed)
IsAnswer bytes line left before faults now Limit = IsUnended bytes × (now.taken ≡ corpus_limit) × (now ≡ settled now.taken Limit)

-- one call of a reader: `more` is what it took from the source; no read failed where it doesn't say so, and no second one where it does;
-- a reading that stands still takes nothing, reads nothing and answers the same
pub record NextLine (left_before left_now : Option (List ℕ)) (faults_before faults_now : ℕ) (before now : Reading) (line : List ℕ) (step : Step) : Type 0 where
  pub more : List ℕ
  pub consumed : Consumes left_before left_now more
  pub counted : now.taken ≡ before.taken + length more
  pub stands : step ≢ Failed → faults_now ≡ faults_before
  pub once : faults_now ≤ faults_before + 1
  pub still : before.last ≢ None → faults_now ≡ faults_before
  pub answer : MatchOption before.last
      (IsAnswer (before.ready ++ more) line left_now faults_before faults_now now step)
      (λ last. (step ≡ last) × (more ≡ []) × (now ≡ before))

-- a call that gave nothing took these bytes
pub record Took (left_before left_now : Option (List ℕ)) : Type 0 where
  pub more : List ℕ
  pub consumed : Consumes left_before left_now more
