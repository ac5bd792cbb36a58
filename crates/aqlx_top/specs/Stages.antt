-- What the stages of a call come to: a program text, its file, and the line on standard error. Only private clauses
-- cite this.
use Rattle.std.specs.Prelude.{◌≡◌, ◌≢◌, ℕ, ◌⊎◌, List, []}
use Rattle.aqlx_top.specs.declared.status.Status.{Status}
use Rattle.aqlx_top.specs.declared.status.Status.TheVariants.{Program as Refused, ReadFault, WriteFault}
use Rattle.aqlx_top.specs.declared.status.ProgramFault.{ProgramFault}
use Rattle.aqlx_top.specs.Devices.{FilesEnds, SourceEnds, SinkEnds, FilesFailed, SinkFailed, Gained, HasSent}
use Rattle.aqlx_top.specs.Handing.{PoolEnds, IsUnasked}
use Rattle.aqlx_top.specs.Outcome.{IsReadAs, IsIdle}
use Rattle.aqlx_top.specs.PoolRuns.{Ran, RanInPart}
use Rattle.aqlx_top.specs.ProgramFaults.{HasOnlyFault, HoldsProgram}
use Rattle.aqlx_top.specs.Run.{Program}
use Rattle.aqlx_top.specs.Statuses.{HasLine, HasLinePart, message_of}

-- what a run of a program by a pool comes to
abbrev pub IsRunFor : PoolEnds → List ℕ → Program → SourceEnds → SinkEnds → Status → Type 0
IsRunFor pool text program corpus out WriteFault = SinkFailed out × RanInPart pool text program corpus out
IsRunFor pool text program corpus out status = Ran pool text program corpus out status

-- the text holds a program, and it ran
pub record RanText (text : List ℕ) (pool : PoolEnds) (corpus : SourceEnds) (out : SinkEnds) (status : Status) : Type 0 where
  pub program : Program
  pub holds : HoldsProgram text program
  pub ran : IsRunFor pool text program corpus out status

-- the text holds a program, and it ran in part
pub record RanTextInPart (text : List ℕ) (pool : PoolEnds) (corpus : SourceEnds) (out : SinkEnds) : Type 0 where
  pub program : Program
  pub holds : HoldsProgram text program
  pub ran : RanInPart pool text program corpus out

-- nothing is written, and nothing handed to the pool
pub record IsHeldBack (pool : PoolEnds) (out : SinkEnds) : Type 0 where
  pub unasked : IsUnasked pool
  pub gained : Gained out []

-- the text is refused for its fault, and nothing is done
pub record RefusedText (text : List ℕ) (pool : PoolEnds) (corpus : SourceEnds) (out : SinkEnds) (status : Status) : Type 0 where
  pub fault : ProgramFault
  pub told : status ≡ Refused fault
  pub cause : HasOnlyFault text fault
  pub idle : IsIdle pool corpus out

-- what a program text comes to: it is refused, or it ran
abbrev pub IsTextRunTo : List ℕ → PoolEnds → SourceEnds → SinkEnds → Status → Type 0
IsTextRunTo text pool corpus out status = RefusedText text pool corpus out status ⊎ RanText text pool corpus out status

abbrev pub IsTextInPart : List ℕ → PoolEnds → SourceEnds → SinkEnds → Type 0
IsTextInPart text pool corpus out = IsHeldBack pool out ⊎ RanTextInPart text pool corpus out

-- what a program file comes to: it can't be read, or it holds a text, which came to this
abbrev pub IsFileRunTo : List ℕ → FilesEnds → PoolEnds → SourceEnds → SinkEnds → Status → Type 0
IsFileRunTo name files pool corpus out status =
    ((status ≡ ReadFault) × FilesFailed files × IsIdle pool corpus out)
    ⊎ ((text : List ℕ) × IsReadAs files name text × IsTextRunTo text pool corpus out status)

abbrev pub IsFileInPart : List ℕ → FilesEnds → PoolEnds → SourceEnds → SinkEnds → Type 0
IsFileInPart name files pool corpus out =
    IsHeldBack pool out ⊎ ((text : List ℕ) × IsReadAs files name text × RanTextInPart text pool corpus out)

-- a status has a line, and its writing failed, so that a failed write is told in its place
pub record LineIsCut (err : SinkEnds) (status told : Status) : Type 0 where
  pub told_is : told ≡ WriteFault
  pub has_line : message_of status ≢ []
  pub failed : SinkFailed err
  pub part : HasLinePart err status

-- what is answered for a status once its line is written: the status, or a failed write in its place
abbrev pub IsToldAs : SinkEnds → Status → Status → Type 0
IsToldAs err status told = ((told ≡ status) × HasLine err status) ⊎ LineIsCut err status told

-- the same of a status that has a line
abbrev pub IsWrittenAs : SinkEnds → Status → Status → Type 0
IsWrittenAs err status told = ((told ≡ status) × HasSent err (message_of status)) ⊎ LineIsCut err status told
