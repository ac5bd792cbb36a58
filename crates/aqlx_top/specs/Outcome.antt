-- The promise of the top call: what each answer says of the words, the files, the corpus and what was written.
use Rattle.std.specs.Prelude.{◌≡◌, ◌≢◌, ℕ, ◌<◌, ◌⊎◌, ⊤, true, List, [], length, Some, Result, Ok, Err, IfSome, IsSomeAnd, IsErr}
use Rattle.span_token.specs.declared.refusal.OutOfMemory.{OutOfMemory}
use Rattle.corpus_json.specs.Limits.{corpus_limit}
use Rattle.demo_corpus.specs.Corpora.{generated_corpus}
use Rattle.corpus_json.specs.Lines.{lines_of}
use Rattle.aqlx_top.specs.declared.status.Status.{Status}
use Rattle.aqlx_top.specs.declared.status.Status.TheVariants.{Done, Program as Refused, Usage, Corpus, ReadFault, WriteFault}
use Rattle.aqlx_top.specs.declared.status.ProgramFault.{ProgramFault}
use Rattle.aqlx_top.specs.Devices.{FilesEnds, SourceEnds, SinkEnds, FilesFailed, SourceFailed, SinkFailed, FilesNeverFailed, SourceNeverFailed, SinkNeverFailed, Gained, GainedFront, HasSent, IsUntouched, IsUnread}
use Rattle.aqlx_top.specs.Handing.{PoolEnds, IsUnasked}
use Rattle.aqlx_top.specs.Modes.{GivesOk, GivesPlan}
use Rattle.aqlx_top.specs.PoolRuns.{Ran, RanInPart, GivesSummary, IsCountedInPart}
use Rattle.aqlx_top.specs.ProgramFaults.{HasFault, HasOnlyFault, AreOneFault, IsFaultless, HoldsProgram}
use Rattle.aqlx_top.specs.Run.{Program}
use Rattle.aqlx_top.specs.Statuses.{HasLine, HasLinePart, message_of}
use Rattle.aqlx_top.specs.Taken.{HasNoBadLine}
use Rattle.aqlx_top.specs.Words.{Order, to_run, to_check, to_plan, to_generate, to_demonstrate, IsOrder, IsNoRun, IsNoOrder, IsFileOrder}

-- what a call is given, and what it did, standard error apart
pub record Call : Type 0 where
  pub words : List (List ℕ)
  pub files : FilesEnds
  pub pool : PoolEnds
  pub corpus : SourceEnds
  pub out : SinkEnds

-- the call of these words over these objects
abbrev pub call_of : List (List ℕ) → FilesEnds → PoolEnds → SourceEnds → SinkEnds → Call
call_of words files pool corpus out = record { words = words; files = files; pool = pool; corpus = corpus; out = out }

-- the file of this name was read without a failed call, and holds this text, where the files tell what they hold
pub record IsReadAs (files : FilesEnds) (name text : List ℕ) : Type 0 where
  pub held : IfSome files.told (λ names. names name ≡ Some text)
  pub unfailed : FilesNeverFailed files

-- the words ask to run a program file that holds this program
pub record IsCalledFor (call : Call) (program : Program) : Type 0 where
  pub name : List ℕ
  pub text : List ℕ
  pub words : IsOrder call.words (to_run name)
  pub file : IsReadAs call.files name text
  pub holds : HoldsProgram text program

-- the pool ran the called program to this status, and all of its lines are written and flushed
pub record RanTo (call : Call) (status : Status) : Type 0 where
  pub program : Program
  pub called : IsCalledFor call program
  pub ran : Ran call.pool called.text program call.corpus call.out status

-- the pool ran the called program, and a prefix of its lines is written
pub record RanTowards (call : Call) : Type 0 where
  pub program : Program
  pub called : IsCalledFor call program
  pub ran : RanInPart call.pool called.text program call.corpus call.out

-- the file of this name holds a text that gives these bytes
pub record IsGivenBy (files : FilesEnds) (name : List ℕ) (Gives : List ℕ → List ℕ → Type 0) (bytes : List ℕ) : Type 0 where
  pub text : List ℕ
  pub file : IsReadAs files name text
  pub given : Gives text bytes

-- these bytes are to be written for an order that reads no corpus
abbrev pub IsMeant : FilesEnds → PoolEnds → Order → List ℕ → Type 0
IsMeant files pool (to_run name) bytes = ⊥
IsMeant files pool (to_check name) bytes = IsGivenBy files name GivesOk bytes
IsMeant files pool (to_plan name) bytes = IsGivenBy files name GivesPlan bytes
IsMeant files pool (to_generate count) bytes = bytes ≡ generated_corpus count
IsMeant files pool (to_demonstrate count) bytes = GivesSummary pool count bytes

-- the demonstration alone hands documents to the pool, of the orders that read no corpus
abbrev pub IsAskedFor : PoolEnds → Order → Type 0
IsAskedFor pool (to_run name) = ⊥
IsAskedFor pool (to_check name) = IsUnasked pool
IsAskedFor pool (to_plan name) = IsUnasked pool
IsAskedFor pool (to_generate count) = IsUnasked pool
IsAskedFor pool (to_demonstrate count) = ⊤

-- the words ask for something that reads no corpus; all that is to be written for it is written and flushed, and no call of
-- the files, the corpus and the output failed
pub record Wrote (call : Call) : Type 0 where
  pub order : Order
  pub words : IsOrder call.words order
  pub bytes : List ℕ
  pub meant : IsMeant call.files call.pool order bytes
  pub asked : IsAskedFor call.pool order
  pub unfailed : FilesNeverFailed call.files
  pub unread : IsUnread call.corpus
  pub sent : HasSent call.out bytes

-- the words ask for something that reads no corpus, and a beginning of what is to be written for it is written
pub record WroteInPart (call : Call) : Type 0 where
  pub order : Order
  pub words : IsOrder call.words order
  pub bytes : List ℕ
  pub meant : IsMeant call.files call.pool order bytes
  pub asked : IsAskedFor call.pool order
  pub unread : IsUnread call.corpus
  pub front : GainedFront call.out bytes

-- nothing is handed to the pool, and the corpus and the output are as they were
pub record IsIdle (pool : PoolEnds) (corpus : SourceEnds) (out : SinkEnds) : Type 0 where
  pub unasked : IsUnasked pool
  pub unread : IsUnread corpus
  pub untouched : IsUntouched out

-- a prefix of what is asked for is written: of what the called program means, or of what another mode writes
abbrev pub WroteTowards : Call → Type 0
WroteTowards call = RanTowards call ⊎ WroteInPart call

-- the words ask for the demonstration, which is under way
pub record CountsTowards (call : Call) : Type 0 where
  pub count : ℕ
  pub words : IsOrder call.words (to_demonstrate count)
  pub counted : IsCountedInPart call.pool count

-- nothing is written, and nothing is handed to the pool but by the demonstration
pub record WroteNothing (call : Call) : Type 0 where
  pub gained : Gained call.out []
  pub handed : IsUnasked call.pool ⊎ CountsTowards call

-- whatever a call answers: what it wrote is nothing, or a prefix of what is asked for
abbrev pub WroteFront : Call → Type 0
WroteFront call = WroteNothing call ⊎ WroteTowards call

-- the words name a program file, and nothing is read of the corpus and written
pub record StoppedBefore (call : Call) : Type 0 where
  pub name : List ℕ
  pub words : IsFileOrder call.words name
  pub idle : IsIdle call.pool call.corpus call.out

-- the words name a file whose text has this fault and no other, and nothing is read of the corpus and written
pub record RefusedFor (call : Call) (fault : ProgramFault) : Type 0 where
  pub name : List ℕ
  pub text : List ℕ
  pub words : IsFileOrder call.words name
  pub file : IsReadAs call.files name text
  pub cause : HasOnlyFault text fault
  pub idle : IsIdle call.pool call.corpus call.out

-- the words ask for nothing, no call of the files failed, and the corpus and the output are as they were
pub record AsksForNothing (call : Call) : Type 0 where
  pub words : IsNoOrder call.words
  pub unfailed : FilesNeverFailed call.files
  pub idle : IsIdle call.pool call.corpus call.out

-- the cause of each status, before its line is written
abbrev pub HasCauseOf : Call → Status → Type 0
HasCauseOf call Done = RanTo call Done ⊎ Wrote call
HasCauseOf call (Refused fault) = RefusedFor call fault
HasCauseOf call Usage = AsksForNothing call
HasCauseOf call (Corpus fault) = RanTo call (Corpus fault)
HasCauseOf call ReadFault = (FilesFailed call.files × StoppedBefore call) ⊎ RanTo call ReadFault
HasCauseOf call WriteFault = SinkFailed call.out × WroteTowards call

-- a status that has a line, in whose place a failed write of that line is answered
pub record LineFailed (call : Call) (err : SinkEnds) : Type 0 where
  pub replaced : Status
  pub has_line : message_of replaced ≢ []
  pub cause : HasCauseOf call replaced
  pub failed : SinkFailed err
  pub part : HasLinePart err replaced

-- what an answer says: each status has its cause and its line; a failed write is one of the output or of that line
abbrev pub IsAnswered : Call → SinkEnds → Result Status OutOfMemory → Type 0
IsAnswered call err (Ok WriteFault) = (HasCauseOf call WriteFault × IsUntouched err) ⊎ LineFailed call err
IsAnswered call err (Ok status) = HasCauseOf call status × HasLine err status
IsAnswered call err (Err _) = WroteFront call × IsUntouched err

-- every line of a corpus below the limit is blank or a document
abbrev pub IsOfDocuments : SourceEnds → Type 0
IsOfDocuments corpus = IsSomeAnd corpus.left_before (λ bytes. (length bytes < corpus_limit) × HasNoBadLine (lines_of true bytes))

-- no call of any object failed, and no count of faults stands at its last value
pub record HasNoFault (call : Call) (err : SinkEnds) : Type 0 where
  pub files : ¬ FilesFailed call.files
  pub corpus : ¬ SourceFailed call.corpus
  pub out : ¬ SinkFailed call.out
  pub line : ¬ SinkFailed err

-- no call of any object failed: no count of faults is other than it was
pub record NoneFailed (call : Call) (err : SinkEnds) : Type 0 where
  pub files : FilesNeverFailed call.files
  pub corpus : SourceNeverFailed call.corpus
  pub out : SinkNeverFailed call.out
  pub line : SinkNeverFailed err

-- the file of this name tells that it holds the text
abbrev pub TellsText : FilesEnds → List ℕ → List ℕ → Type 0
TellsText files name text = IsSomeAnd files.told (λ names. names name ≡ Some text)

-- the words name a file that tells its text
pub record IsCalledWith (call : Call) (text : List ℕ) : Type 0 where
  pub name : List ℕ
  pub words : IsFileOrder call.words name
  pub file : TellsText call.files name text

-- the file of this name tells a program text without a fault
pub record TellsFaultless (files : FilesEnds) (name : List ℕ) : Type 0 where
  pub text : List ℕ
  pub file : TellsText files name text
  pub faultless : IsFaultless text

-- what an order asks of its program file, where it reads one, and of the corpus, so that it can be carried out
abbrev pub CanBeDone : Call → Order → Type 0
CanBeDone call (to_run name) = TellsFaultless call.files name × IsOfDocuments call.corpus
CanBeDone call (to_check name) = TellsFaultless call.files name
CanBeDone call (to_plan name) = TellsFaultless call.files name
CanBeDone call (to_generate count) = ⊤
CanBeDone call (to_demonstrate count) = ⊤

-- the answer is the refusal for this fault; of several cycles any may be told
abbrev pub IsRefusal : ProgramFault → Result Status OutOfMemory → Type 0
IsRefusal fault result = (told : ProgramFault) × (result ≡ Ok (Refused told)) × AreOneFault fault told

-- the text is refused for this fault, or the file or the line failed, or memory is wanting
abbrev pub IsRefusedOrWanting : Call → SinkEnds → ProgramFault → Result Status OutOfMemory → Type 0
IsRefusedOrWanting call err fault result =
    IsRefusal fault result ⊎ ((result ≡ Ok ReadFault) × FilesFailed call.files)
    ⊎ ((result ≡ Ok WriteFault) × SinkFailed err) ⊎ IsErr result

-- all is done, or memory is wanting
abbrev pub IsDoneOrWanting : Result Status OutOfMemory → Type 0
IsDoneOrWanting result = (result ≡ Ok Done) ⊎ IsErr result

-- the promise of the top call
pub record Outcome (call : Call) (err : SinkEnds) (result : Result Status OutOfMemory) : Type 0 where
  -- each answer has its cause, its line on standard error, and its bytes on the output
  pub answered : IsAnswered call err result
  -- whatever the answer is
  pub front : WroteFront call
  -- a call that failed is told, as a failed read or a failed write, or memory is wanting
  pub told : (status : Status) → result ≡ Ok status → status ≢ ReadFault → status ≢ WriteFault → NoneFailed call err
  -- words that ask for no run leave the corpus as it was
  pub unread : IsNoRun call.words → IsUnread call.corpus
  -- with a failed read no write failed
  pub read : result ≡ Ok ReadFault → SinkNeverFailed call.out × SinkNeverFailed err
  -- words that ask for nothing have the status of usage, or memory or the line's writing failed
  pub usage : IsNoOrder call.words → (result ≡ Ok Usage) ⊎ ((result ≡ Ok WriteFault) × SinkFailed err) ⊎ IsErr result
  -- a program text that has a fault is refused for it, or the file, the line's writing or memory failed
  pub refused : (text : List ℕ) (fault : ProgramFault) → IsCalledWith call text → HasFault text fault → IsRefusedOrWanting call err fault result
  -- with right words, a program text without a fault and a corpus of documents, where they are read, and no failed call, all
  -- is done or memory is wanting
  pub complete : (order : Order) → IsOrder call.words order → CanBeDone call order → HasNoFault call err → IsDoneOrWanting result
