-- A reader that holds its source, and its answers.
use Rattle.std.specs.Prelude.{ℕ, List, []}
use Rattle.corpus_json.specs.declared.step.Step.{Step}
use Rattle.corpus_json.specs.declared.step.Step.TheVariants as step
use Rattle.corpus_json.specs.declared.line_reader.Next.{Next}
use Rattle.corpus_json.specs.declared.line_reader.Next.TheVariants.{Line, End, Long, Failed, Limit}
use Rattle.corpus_json.specs.Reading.{Reading}

-- a reader: how its reading stands, and its source
pub record Reader (S : Type 0) : Type 0 where
  pub reading : Reading
  pub source : S

-- what comes next, without the line
abbrev pub step_of : Next → Step
step_of (Line _) = step.Line
step_of End = step.End
step_of Long = step.Long
step_of Failed = step.Failed
step_of Limit = step.Limit

-- the line, where it is one
abbrev pub line_in : Next → List ℕ
line_in (Line line) = line.items
line_in End = []
line_in Long = []
line_in Failed = []
line_in Limit = []
