-- The two steps by which a line is put together: a piece of what is ready, and a read.
use Rattle.std.specs.Prelude.{◌≡◌, ◌≢◌, ℕ, ◌+◌, ◌<◌, ◌≤◌, Bool, if◌then◌else◌, List, [], ◌∷◌, ◌++◌, length, Option, None, Some}
use Rattle.std.specs.Io.KnownBytes.{Consumes, IsAtEnd}
use Rattle.aql_io.specs.Causes.{counted}
use Rattle.corpus_json.specs.declared.step.Step.{Step}
use Rattle.corpus_json.specs.declared.step.Step.TheVariants.{Line, End, Long, Failed, Limit}
use Rattle.corpus_json.specs.Limits.{line_limit, corpus_limit}
use Rattle.corpus_json.specs.Lines.{HasNoLf}
use Rattle.corpus_json.specs.Reading.{Reading, settled}

-- what was ready up to the first LF is at the end of the line, and the LF is gone
pub record TakesLine (before now : Reading) (line_before line_now : List ℕ) : Type 0 where
  pub piece : List ℕ
  pub line : line_now ≡ line_before ++ piece
  pub split : before.ready ≡ piece ++ 10 ∷ now.ready
  pub no_lf : HasNoLf piece
  pub short : length line_now ≤ line_limit
  pub same : now ≡ record before { ready = now.ready }

-- the line would be too long with what is ready up to the first LF
pub record TakesTooMany (before now : Reading) (line_before : List ℕ) : Type 0 where
  pub piece : List ℕ
  pub others : List ℕ
  pub split : before.ready ≡ piece ++ others
  pub no_lf : HasNoLf piece
  pub long : line_limit < length line_before + length piece
  pub settled : now ≡ settled before.taken Long

-- all that was ready is at the end of the line, and no LF is in it
pub record TakesAll (before now : Reading) (line_before line_now : List ℕ) : Type 0 where
  pub line : line_now ≡ line_before ++ before.ready
  pub no_lf : HasNoLf before.ready
  pub short : length line_now ≤ line_limit
  pub same : now ≡ record before { ready = [] }

-- what a piece did, by the answer
abbrev pub TakesPiece : Reading → Reading → List ℕ → List ℕ → Option Step → Type 0
TakesPiece before now line_before line_now None = TakesAll before now line_before line_now
TakesPiece before now line_before line_now (Some Line) = TakesLine before now line_before line_now
TakesPiece before now line_before line_now (Some End) = ⊥
TakesPiece before now line_before line_now (Some Long) = TakesTooMany before now line_before
TakesPiece before now line_before line_now (Some Failed) = ⊥
TakesPiece before now line_before line_now (Some Limit) = ⊥

-- why a read brought nothing: the source's end, a fault, or the corpus's limit
abbrev pub BringsNothing : Option (List ℕ) → ℕ → ℕ → Reading → Reading → Step → Type 0
BringsNothing left faults_before faults_now before now Line = ⊥
BringsNothing left faults_before faults_now before now End = IsAtEnd left × (before.taken < corpus_limit) × (now ≡ settled before.taken End)
BringsNothing left faults_before faults_now before now Long = ⊥
BringsNothing left faults_before faults_now before now Failed =
    (faults_now ≡ counted faults_before) × (before.taken < corpus_limit) × (now ≡ settled before.taken Failed)
BringsNothing left faults_before faults_now before now Limit = (before.taken ≡ corpus_limit) × (now ≡ settled before.taken Limit)

-- what a read brought, by the answer
abbrev pub Brings : Option (List ℕ) → ℕ → ℕ → Reading → Reading → List ℕ → Option Step → Type 0
Brings left faults_before faults_now before now more None =
    (more ≢ []) × (before.taken + length more ≤ corpus_limit) × (now ≡ record { ready = more; taken = before.taken + length more; last = None })
Brings left faults_before faults_now before now more (Some step) = (more ≡ []) × BringsNothing left faults_before faults_now before now step

-- what a read did: it brought some bytes, which are ready, or nothing for a reason
pub record Fills (left_before left_now : Option (List ℕ)) (faults_before faults_now : ℕ) (before now : Reading) (answer : Option Step) : Type 0 where
  pub more : List ℕ
  pub consumed : Consumes left_before left_now more
  pub later : faults_before ≤ faults_now
  pub stands : answer ≢ Some Failed → faults_now ≡ faults_before
  pub brings : Brings left_now faults_before faults_now before now more answer

-- the answer where a read brought nothing: at the source's end, a line that was begun is whole
abbrev pub step_after : Step → Bool → Step
step_after Line is_empty = Line
step_after End is_empty = if is_empty then End else Line
step_after Long is_empty = Long
step_after Failed is_empty = Failed
step_after Limit is_empty = Limit
