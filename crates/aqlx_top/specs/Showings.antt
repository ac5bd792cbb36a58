-- What the modes that read no corpus come to. Only private clauses cite this.
use Rattle.std.specs.Prelude.{◌≡◌, ℕ, ◌+◌, ◌⊎◌, List, [], ◌∷◌, ◌++◌, codes, length}
use Rattle.algebra.specs.Plans.{Parts}
use Rattle.demo_corpus.specs.Totals.{Answer, Tally, tally_of}
use Rattle.plan_maker.specs.PlanTexts.{text_of}
use Rattle.aqlx_top.specs.declared.status.Status.{Status}
use Rattle.aqlx_top.specs.declared.status.Status.TheVariants.{Done, Program as Refused, ReadFault, WriteFault}
use Rattle.aqlx_top.specs.declared.status.ProgramFault.{ProgramFault}
use Rattle.aqlx_top.specs.declared.modes.Shown.{Shown}
use Rattle.aqlx_top.specs.declared.modes.Shown.TheVariants.{Check, Plan}
use Rattle.aqlx_top.specs.Devices.{FilesEnds, SinkEnds, FilesFailed, SinkFailed, GainedFront, HasSent, IsUntouched}
use Rattle.aqlx_top.specs.Handing.{PoolEnds}
use Rattle.aqlx_top.specs.Modes.{GivesOk, GivesPlan}
use Rattle.aqlx_top.specs.Outcome.{IsReadAs}
use Rattle.aqlx_top.specs.PoolRuns.{GivesSummary}
use Rattle.aqlx_top.specs.ProgramFaults.{HasOnlyFault}

-- what is shown of a program's text
abbrev pub gives : Shown → List ℕ → List ℕ → Type 0
gives Check = GivesOk
gives Plan = GivesPlan

-- and how it follows from the plan
abbrev pub shown_text : Shown → Parts → List ℕ
shown_text Check plan = codes "ok\n"
shown_text Plan plan = text_of plan

-- these bytes are written and flushed, or a write failed behind a beginning of them
abbrev pub IsSent : SinkEnds → List ℕ → Status → Type 0
IsSent out bytes status = ((status ≡ Done) × HasSent out bytes) ⊎ ((status ≡ WriteFault) × SinkFailed out × GainedFront out bytes)

-- the text is refused for its fault, and nothing is written
pub record RefusedUnwritten (text : List ℕ) (out : SinkEnds) (status : Status) : Type 0 where
  pub fault : ProgramFault
  pub told : status ≡ Refused fault
  pub cause : HasOnlyFault text fault
  pub untouched : IsUntouched out

-- what the text gives is written, or its writing failed
pub record SentFor (Gives : List ℕ → List ℕ → Type 0) (text : List ℕ) (out : SinkEnds) (status : Status) : Type 0 where
  pub bytes : List ℕ
  pub given : Gives text bytes
  pub sent : IsSent out bytes status

abbrev pub IsTextShown : (List ℕ → List ℕ → Type 0) → List ℕ → SinkEnds → Status → Type 0
IsTextShown Gives text out status = RefusedUnwritten text out status ⊎ SentFor Gives text out status

-- what a program file comes to: it can't be read, or it holds a text, which came to this
abbrev pub IsFileShown : (List ℕ → List ℕ → Type 0) → List ℕ → FilesEnds → SinkEnds → Status → Type 0
IsFileShown Gives name files out status =
    ((status ≡ ReadFault) × FilesFailed files × IsUntouched out)
    ⊎ ((text : List ℕ) × IsReadAs files name text × IsTextShown Gives text out status)

-- the demonstration's summary is written, or its writing failed
pub record IsSummarySent (pool : PoolEnds) (count : ℕ) (out : SinkEnds) (status : Status) : Type 0 where
  pub bytes : List ℕ
  pub given : GivesSummary pool count bytes
  pub sent : IsSent out bytes status

-- the rows of the outputs, so many, on one document more are counted
pub record IsCounted (outputs : ℕ) (answer : Answer) (before now : Tally) : Type 0 where
  pub counted : (answers : List Answer) → before ≡ tally_of outputs answers → now ≡ tally_of outputs (answers ++ answer ∷ [])
  pub documents : now.documents ≡ before.documents + 1
  pub as_many : length now.totals ≡ length before.totals
