-- How a pool runs a program, and what it counts in the demonstration.
use Rattle.std.specs.Prelude.{◌≡◌, ℕ, List, length, map}
use Rattle.span_token.specs.Documents.{Doc}
use Rattle.algebra.specs.Plans.{Parts}
use Rattle.plan_maker.specs.PlanTexts.{text_of}
use Rattle.demo_corpus.specs.declared.demo.TheConstants.{DEMO}
use Rattle.demo_corpus.specs.Generator.{first_documents}
use Rattle.demo_corpus.specs.Summaries.{summary_of}
use Rattle.demo_corpus.specs.Totals.{tally_of}
use Rattle.run_pool.specs.Answers.{IsSound}
use Rattle.run_pool.specs.Lines.{Meaning, line_from, names_in}
use Rattle.aqlx_top.specs.declared.status.Status.{Status}
use Rattle.aqlx_top.specs.Devices.{SourceEnds, SinkEnds}
use Rattle.aqlx_top.specs.Handing.{PoolEnds, IsHandedAll, IsHandedFront, CameBy, InPartBy}
use Rattle.aqlx_top.specs.Modes.{GivesPlan, summary_on}
use Rattle.aqlx_top.specs.Plans.{IsPlanOf}
use Rattle.aqlx_top.specs.ProgramFaults.{HoldsProgram}
use Rattle.aqlx_top.specs.Run.{Program, line_of}

-- a plan by which documents are handed to a pool: it is a normal plan of the program's text, as it is shown; and a sound
-- pool's line of each document is the one that the program means
pub record IsRunWith (means : Meaning) (text : List ℕ) (program : Program) (plan : Parts) : Type 0 where
  pub planned : IsPlanOf text plan
  pub shown : GivesPlan text (text_of plan)
  pub meant : IsSound means → (document : Doc) → line_from means plan document ≡ line_of program document

-- a run of a program by a pool that came to this status
pub record Ran (pool : PoolEnds) (text : List ℕ) (program : Program) (corpus : SourceEnds) (out : SinkEnds) (status : Status) : Type 0 where
  pub plan : Parts
  pub with_plan : IsRunWith pool.means text program plan
  pub run : CameBy pool plan corpus out status

-- a run of a program by a pool at any moment
pub record RanInPart (pool : PoolEnds) (text : List ℕ) (program : Program) (corpus : SourceEnds) (out : SinkEnds) : Type 0 where
  pub plan : Parts
  pub with_plan : IsRunWith pool.means text program plan
  pub run : InPartBy pool plan corpus out.held_before out.held_after

-- the summary by a pool on documents: how many they are, and how many rows it answered for each output over all of them
abbrev pub summary_from : Meaning → Parts → List Doc → List ℕ
summary_from means plan docs = summary_of (names_in plan) (tally_of (length plan.outputs) (map (means plan) docs))

-- the demonstration by a pool on so many generated documents: all of them are handed over with a normal plan of its program, and the
-- summary is that of the rows that the pool answered; a sound pool's is the one that the program means
pub record GivesSummary (pool : PoolEnds) (count : ℕ) (bytes : List ℕ) : Type 0 where
  pub program : Program
  pub holds : HoldsProgram DEMO.now program
  pub plan : Parts
  pub planned : IsPlanOf DEMO.now plan
  pub shown : GivesPlan DEMO.now (text_of plan)
  pub handed : IsHandedAll pool plan (first_documents count)
  pub bytes_are : bytes ≡ summary_from pool.means plan (first_documents count)
  pub meant : IsSound pool.means → summary_from pool.means plan (first_documents count) ≡ summary_on program (first_documents count)

-- the demonstration under way: the first generated documents are handed over with a normal plan of its program
pub record IsCountedInPart (pool : PoolEnds) (count : ℕ) : Type 0 where
  pub plan : Parts
  pub planned : IsPlanOf DEMO.now plan
  pub shown : GivesPlan DEMO.now (text_of plan)
  pub handed : IsHandedFront pool plan (first_documents count)
