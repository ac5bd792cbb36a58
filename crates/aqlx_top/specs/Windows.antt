-- A run in windows of documents. Only private clauses cite this.
use Rattle.std.specs.Prelude.{◌≡◌, ◌⊎◌, ℕ, ◌+◌, ◌-◌, ◌<◌, ◌≤◌, ◌*◌, ◌^◌, Bool, true, false, not, List, [], ◌∷◌, ◌++◌, length, map, Option, None, Result, Ok, Err}
use Rattle.std.specs.List.{flat_map}
use Rattle.span_token.specs.Documents.{Doc}
use Rattle.corpus_json.specs.declared.input.Input.{Input}
use Rattle.corpus_json.specs.Documents.{documents, is_bad_line}
use Rattle.corpus_json.specs.Inputs.{doc_of}
use Rattle.corpus_json.specs.Limits.{corpus_limit}
use Rattle.span_token.specs.declared.refusal.OutOfMemory.{OutOfMemory}
use Rattle.aql_io.specs.Causes.{Rose}
use Rattle.corpus_json.specs.Reading.{Passed, Reading}
use Rattle.line_sight.specs.Seen.{shown_by}
use Rattle.algebra.specs.Plans.{Parts}
use Rattle.line_parts.specs.declared.desk.Answered.{Answered}
use Rattle.line_parts.specs.Answered.{CameTo, Outgoing}
use Rattle.window_lines.specs.Lines.{AreShort}
use Rattle.aqlx_top.specs.declared.windows.Turnout.{Turnout}
use Rattle.aqlx_top.specs.declared.windows.Turnout.TheVariants.{Next, Ended, Unwritten}
use Rattle.aqlx_top.specs.declared.status.Status.TheVariants.{Corpus}
use Rattle.aqlx_top.specs.declared.status.CorpusFault.TheVariants.{BadLine}
use Rattle.aqlx_top.specs.declared.windows.Windowed.{Windowed}
use Rattle.aqlx_top.specs.Devices.{SourceEnds}
use Rattle.aqlx_top.specs.Endings.{InPart}
use Rattle.aqlx_top.specs.Progress.{Stands, Finished}
use Rattle.aqlx_top.specs.Planned.{names_in}

-- what is pending, and what is written for the documents of the window behind it
abbrev pub meant_by : (Doc → List ℕ) → List ℕ → List Input → List ℕ
meant_by piece pending window = pending ++ flat_map piece (map doc_of window)

-- what a run in windows keeps fits its plan, it has a worker, and its window has room: one document at least, and no more
-- items than can be numbered
pub record Fits (plan : Parts) (work : Windowed) : Type 0 where
  pub plan_is : work.plan.now ≡ plan
  pub layout : work.layout ≡ names_in plan
  pub tables : work.crew ≡ plan.lists
  pub schedule : work.schedule ≡ plan
  pub hands : work.hands ≡ plan.lists
  pub workers : 0 < work.workers
  pub some : 0 < work.most
  pub few : work.most * length plan.nodes < 2 ^ 32
  pub within : length work.window.items ≤ work.most
  pub short : AreShort work.window.items

-- the document of the line that was given is put behind those of the window, and the line is good, or bad
pub record IsPut (before now : Windowed) (good : Bool) : Type 0 where
  pub good_is : is_bad_line before.line.items ≡ not good
  pub documents_are : map doc_of now.window.items ≡ map doc_of before.window.items ++ documents (before.line.items ∷ [])
  pub pending : now.pending ≡ before.pending
  pub reader : now.reader ≡ before.reader
  pub number : now.number ≡ before.number

-- the line that was given is put into the window, and a bad one ends the run
abbrev pub HasTaken : Windowed → Windowed → Turnout → Type 0
HasTaken before now Next = IsPut before now true
HasTaken before now (Ended status) = IsPut before now false × (status ≡ Corpus (BadLine before.number))
HasTaken before now Unwritten = ⊥

-- what is written for the line that was given, and for those behind it, ready or left of the corpus, is sent or pending, or a write failed
pub record HasAnswered (piece : Doc → List ℕ) (looks : Bool) (left_before left_now : Option (List ℕ)) (out_before out_now : Outgoing) (before now : Windowed) (turn : Turnout) : Type 0 where
  pub ahead : ℕ
  pub going : 0 < ahead → before.reader.last ≡ None
  pub taken : Answered
  pub came : CameTo piece before.line.items (shown_by looks before.reader.ready left_before ahead) taken out_before out_now
  pub next : taken.failed ≡ false → turn ≡ Next
  pub unwritten : taken.failed ≡ true → turn ≡ Unwritten
  pub passed : Passed left_before left_now before.reader now.reader taken.bytes
  pub allowed : ahead ≤ corpus_limit - before.reader.taken
  pub risen : before.number ≤ now.number
  pub counted : before.number + taken.lines < 2 ^ 64 → now.number ≡ before.number + taken.lines
  pub empty_before : before.window.items ≡ []
  pub empty : now.window.items ≡ []

-- nothing is answered
pub record IsAsBefore (before now : Windowed) : Type 0 where
  pub line : now.line ≡ before.line
  pub window : now.window ≡ before.window
  pub pending : now.pending ≡ before.pending
  pub reader : now.reader ≡ before.reader
  pub number : now.number ≡ before.number
  pub most : now.most ≡ before.most

-- one or the other, and nothing of the corpus is passed and nothing written where the line was put into the window
abbrev pub IsGiven : (Doc → List ℕ) → Bool → Option (List ℕ) → Option (List ℕ) → Outgoing → Outgoing → Windowed → Windowed → Turnout → Type 0
IsGiven piece looks left_before left_now out_before out_now before now turn =
    (HasTaken before now turn × (left_now ≡ left_before) × (out_now.held ≡ out_before.held) × (out_now.faults ≡ out_before.faults))
    ⊎ HasAnswered piece looks left_before left_now out_before out_now before now turn

-- a sink behind a turn: the bytes that it holds, where they are told, and its count of faults before the turn and behind it
pub record SinkTurn : Type 0 where
  pub held : Option (List ℕ)
  pub faults_before : ℕ
  pub faults_now : ℕ

abbrev pub sink_turn : Option (List ℕ) → ℕ → ℕ → SinkTurn
sink_turn held before now = record { held = held; faults_before = before; faults_now = now }

-- what one turn came to: the run stands further, or it is finished, and no write failed; or one did; where that is so, or memory is
-- wanting, a prefix is sent
abbrev pub TurnedOut : (Doc → List ℕ) → SourceEnds → Option (List ℕ) → SinkTurn → Reading → List ℕ → ℕ → Result Turnout OutOfMemory → Type 0
TurnedOut piece corpus before out reading pending number (Ok Next) = Stands piece corpus before out.held reading pending number × (out.faults_now ≡ out.faults_before)
TurnedOut piece corpus before out reading pending number (Ok (Ended status)) = Finished piece corpus before out.held pending status × (out.faults_now ≡ out.faults_before)
TurnedOut piece corpus before out reading pending number (Ok Unwritten) = InPart piece corpus before out.held × Rose out.faults_before out.faults_now
TurnedOut piece corpus before out reading pending number (Err _) = InPart piece corpus before out.held
