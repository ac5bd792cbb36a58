-- A run under way, from its beginning to its end. Only private clauses cite this.
use Rattle.std.specs.Prelude.{◌≡◌, ◌≢◌, ℕ, ◌<◌, ◌≤◌, true, List, ◌++◌, length, All, Option, IfSome, MatchOption}
use Rattle.std.specs.Io.KnownBytes.{Appends, Consumes, IsAtEnd}
use Rattle.span_token.specs.Documents.{Doc}
use Rattle.corpus_json.specs.Limits.{corpus_limit}
use Rattle.corpus_json.specs.declared.step.Step.TheVariants.{End}
use Rattle.corpus_json.specs.Lines.{lines_of, joined, HasNoLf}
use Rattle.corpus_json.specs.Reading.{Reading}
use Rattle.aqlx_top.specs.declared.status.Status.{Status}
use Rattle.aqlx_top.specs.declared.status.Status.TheVariants.{ReadFault, WriteFault}
use Rattle.aqlx_top.specs.Devices.{SourceEnds, SinkEnds, SinkFailed, SourceNeverFailed}
use Rattle.aqlx_top.specs.Endings.{written_for, Came, InPart}
use Rattle.aqlx_top.specs.Taken.{How, is_at_end, IsTaken, IsStatusOf, HasNoBadLine}

-- of the bytes that were taken these lines were given: with what is ready they are all bytes; or the source is at its end, and they are all lines
abbrev pub IsReadTo : Option (List ℕ) → List ℕ → List (List ℕ) → Reading → Type 0
IsReadTo left given lines reading =
    MatchOption reading.last
    ((given ≡ joined lines ++ reading.ready) × All HasNoLf lines)
    (λ last. (last ≡ End) × (lines_of true given ≡ lines) × IsAtEnd left × (length given < corpus_limit))

-- the reader goes on, or the source is at its end
abbrev pub IsGoing : Reading → Type 0
IsGoing reading = IfSome reading.last (λ last. last ≡ End)

-- where a run stands between two lines: what was taken, without a failed read, the lines that were looked at, none of
-- them bad, and what of their meaning is sent; the rest of it is pending
pub record Stands (piece : Doc → List ℕ) (corpus : SourceEnds) (held_before held_now : Option (List ℕ)) (reading : Reading) (pending : List ℕ) (number : ℕ) : Type 0 where
  pub given : List ℕ
  pub lines : List (List ℕ)
  pub sent : List ℕ
  pub taken : Consumes corpus.left_before corpus.left_after given
  pub unfailed : SourceNeverFailed corpus
  pub counted : reading.taken ≡ length given
  pub within : reading.taken ≤ corpus_limit
  pub read : IsReadTo corpus.left_after given lines reading
  pub good : HasNoBadLine lines
  pub gained : Appends held_before held_now sent
  pub wrote : sent ++ pending ≡ written_for piece lines
  pub numbered : number ≡ length lines

-- a run that came to its end with this status: what it means is sent, but for what is pending
pub record Finished (piece : Doc → List ℕ) (corpus : SourceEnds) (held_before held_now : Option (List ℕ)) (pending : List ℕ) (status : Status) : Type 0 where
  pub given : List ℕ
  pub how : How
  pub sent : List ℕ
  pub taken : IsTaken corpus given how
  pub status_is : IsStatusOf how (lines_of (is_at_end how) given) status
  pub read : status ≢ ReadFault → SourceNeverFailed corpus
  pub gained : Appends held_before held_now sent
  pub wrote : sent ++ pending ≡ written_for piece (lines_of (is_at_end how) given)

-- what a run answers: a failed write, where the count of faults of the sink rose and a prefix is sent, or a status that it came to
abbrev pub IsRunTo : (Doc → List ℕ) → SourceEnds → SinkEnds → Status → Type 0
IsRunTo piece corpus out WriteFault = SinkFailed out × InPart piece corpus out.held_before out.held_after
IsRunTo piece corpus out status = Came piece corpus out status
