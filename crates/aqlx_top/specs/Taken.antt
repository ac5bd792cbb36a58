-- What a run took from the corpus, how the reading ended, and which line is the first bad one.
use Rattle.std.specs.Prelude.{◌≡◌, ℕ, ◌+◌, ◌<◌, Bool, true, false, List, ◌∷◌, ◌++◌, length, All}
use Rattle.std.specs.Io.KnownBytes.{Consumes, IsAtEnd}
use Rattle.corpus_json.specs.Limits.{corpus_limit}
use Rattle.corpus_json.specs.Documents.{is_bad_line}
use Rattle.corpus_json.specs.Lines.{is_too_long}
use Rattle.aqlx_top.specs.declared.status.Status.{Status}
use Rattle.aqlx_top.specs.declared.status.Status.TheVariants.{Done, Corpus, ReadFault}
use Rattle.aqlx_top.specs.declared.status.CorpusFault.TheVariants.{BadLine, LineLong, CorpusLarge}
use Rattle.aqlx_top.specs.Devices.{SourceEnds, SourceFailed}

-- how the reading of a corpus ended: the source answered its end, a read failed, the most bytes were taken, or it was left off before
pub data How : Type 0 where
  at_end : How
  failed : How
  at_limit : How
  left_off : How

abbrev pub is_at_end : How → Bool
is_at_end at_end = true
is_at_end failed = false
is_at_end at_limit = false
is_at_end left_off = false

-- the source gave these bytes in the call, and the reading ended so
pub record IsTaken (corpus : SourceEnds) (given : List ℕ) (how : How) : Type 0 where
  pub taken : Consumes corpus.left_before corpus.left_after given
  pub ended : how ≡ at_end → IsAtEnd corpus.left_after × (length given < corpus_limit)
  pub broken : how ≡ failed → SourceFailed corpus × (length given < corpus_limit)
  pub full : how ≡ at_limit → length given ≡ corpus_limit

-- no line is bad
abbrev pub HasNoBadLine : List (List ℕ) → Type 0
HasNoBadLine lines = All (λ line. is_bad_line line ≡ false) lines

-- the line of this number, from 1, is the first bad one, and whether it is too long
pub record IsFirstBad (lines : List (List ℕ)) (number : ℕ) (long : Bool) : Type 0 where
  pub before : List (List ℕ)
  pub line : List ℕ
  pub after : List (List ℕ)
  pub split : lines ≡ before ++ line ∷ after
  pub good : HasNoBadLine before
  pub bad : is_bad_line line ≡ true
  pub reason : is_too_long line ≡ long
  pub numbered : number ≡ length before + 1

-- the status that a run has, by how the reading ended and by the lines that were taken
abbrev pub IsStatusOf : How → List (List ℕ) → Status → Type 0
IsStatusOf how lines Done = (how ≡ at_end) × HasNoBadLine lines
IsStatusOf how lines (Corpus (BadLine number)) = IsFirstBad lines number false
IsStatusOf how lines (Corpus (LineLong number)) = IsFirstBad lines number true
IsStatusOf how lines (Corpus CorpusLarge) = (how ≡ at_limit) × HasNoBadLine lines
IsStatusOf how lines ReadFault = (how ≡ failed) × HasNoBadLine lines
IsStatusOf how lines _ = ⊥
