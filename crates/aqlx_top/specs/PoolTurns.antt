-- A run by a pool under way. Only private clauses cite this.
use Rattle.std.specs.Prelude.{ℕ, List, Option, Result, Ok, Err}
use Rattle.span_token.specs.declared.refusal.OutOfMemory.{OutOfMemory}
use Rattle.corpus_json.specs.Documents.{documents}
use Rattle.corpus_json.specs.Lines.{lines_of}
use Rattle.corpus_json.specs.Reading.{Reading}
use Rattle.algebra.specs.Plans.{Parts}
use Rattle.run_pool.specs.Lines.{line_from}
use Rattle.aqlx_top.specs.declared.run.Turn.{Turn}
use Rattle.aqlx_top.specs.declared.run.Turn.TheVariants.{Next, Ended}
use Rattle.aqlx_top.specs.declared.status.Status.{Status}
use Rattle.aqlx_top.specs.declared.status.Status.TheVariants.{WriteFault}
use Rattle.aqlx_top.specs.Devices.{SourceEnds, SinkEnds, SinkFailed}
use Rattle.aqlx_top.specs.Handing.{PoolEnds, IsHandedAll, CameBy, InPartBy}
use Rattle.aqlx_top.specs.Progress.{Stands, Finished}
use Rattle.aqlx_top.specs.Taken.{is_at_end}

-- where it stands between two lines: the documents of the lines that were looked at were handed over
pub record StandsBy (pool : PoolEnds) (plan : Parts) (corpus : SourceEnds) (held_before held_now : Option (List ℕ)) (reading : Reading) (pending : List ℕ) (number : ℕ) : Type 0 where
  pub stands : Stands (line_from pool.means plan) corpus held_before held_now reading pending number
  pub handed : IsHandedAll pool plan (documents stands.lines)

-- and how it is finished: all documents were
pub record FinishedBy (pool : PoolEnds) (plan : Parts) (corpus : SourceEnds) (held_before held_now : Option (List ℕ)) (pending : List ℕ) (status : Status) : Type 0 where
  pub finished : Finished (line_from pool.means plan) corpus held_before held_now pending status
  pub handed : IsHandedAll pool plan (documents (lines_of (is_at_end finished.how) finished.given))

-- what one turn comes to
abbrev pub TurnedBy : PoolEnds → Parts → SourceEnds → Option (List ℕ) → Option (List ℕ) → Reading → List ℕ → ℕ → Result Turn OutOfMemory → Type 0
TurnedBy pool plan corpus before now reading pending number (Ok Next) = StandsBy pool plan corpus before now reading pending number
TurnedBy pool plan corpus before now reading pending number (Ok (Ended status)) = FinishedBy pool plan corpus before now pending status
TurnedBy pool plan corpus before now reading pending number (Err _) = InPartBy pool plan corpus before now

-- what a run by a pool answers
abbrev pub IsRunBy : PoolEnds → Parts → SourceEnds → SinkEnds → Status → Type 0
IsRunBy pool plan corpus out WriteFault = SinkFailed out × InPartBy pool plan corpus out.held_before out.held_after
IsRunBy pool plan corpus out status = CameBy pool plan corpus out status
