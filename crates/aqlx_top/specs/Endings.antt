-- What is written for the lines of a corpus, and how a run over it ends.
use Rattle.std.specs.Prelude.{◌≡◌, ◌≢◌, ℕ, List, ◌++◌, Option}
use Rattle.std.specs.List.{flat_map}
use Rattle.std.specs.Io.KnownBytes.{Appends}
use Rattle.span_token.specs.Documents.{Doc}
use Rattle.corpus_json.specs.Documents.{documents}
use Rattle.corpus_json.specs.Lines.{lines_of}
use Rattle.aqlx_top.specs.declared.status.Status.{Status}
use Rattle.aqlx_top.specs.declared.status.Status.TheVariants.{ReadFault}
use Rattle.aqlx_top.specs.Devices.{SourceEnds, SinkEnds, SourceNeverFailed, HasSent}
use Rattle.aqlx_top.specs.Taken.{How, is_at_end, IsTaken, IsStatusOf}

-- what is written for the documents of lines, one piece for each
abbrev pub written_for : (Doc → List ℕ) → List (List ℕ) → List ℕ
written_for piece lines = flat_map piece (documents lines)

-- a run that came to this status: all that is meant is written and flushed, no write failed, and with
-- another status than a failed read no read did
pub record Came (piece : Doc → List ℕ) (corpus : SourceEnds) (out : SinkEnds) (status : Status) : Type 0 where
  pub given : List ℕ
  pub how : How
  pub taken : IsTaken corpus given how
  pub status_is : IsStatusOf how (lines_of (is_at_end how) given) status
  pub read : status ≢ ReadFault → SourceNeverFailed corpus
  pub wrote : HasSent out (written_for piece (lines_of (is_at_end how) given))

-- a run at any moment: a prefix of what is meant by what was taken is sent
pub record InPart (piece : Doc → List ℕ) (corpus : SourceEnds) (held_before held_now : Option (List ℕ)) : Type 0 where
  pub given : List ℕ
  pub how : How
  pub sent : List ℕ
  pub rest : List ℕ
  pub taken : IsTaken corpus given how
  pub gained : Appends held_before held_now sent
  pub prefix : sent ++ rest ≡ written_for piece (lines_of (is_at_end how) given)
