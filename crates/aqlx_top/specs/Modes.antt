-- What is written in the modes that read no corpus.
use Rattle.std.specs.Prelude.{◌≡◌, ℕ, List, codes, length, map}
use Rattle.span_token.specs.Documents.{Doc}
use Rattle.algebra.specs.Nodes.{IsPlan}
use Rattle.algebra.specs.Plans.{Parts, AreOutputs}
use Rattle.plan_maker.specs.PlanTexts.{text_of}
use Rattle.demo_corpus.specs.Summaries.{summary_of}
use Rattle.demo_corpus.specs.Totals.{tally_of}
use Rattle.aqlx_top.specs.Plans.{IsPlanOf}
use Rattle.aqlx_top.specs.ProgramFaults.{HoldsProgram}
use Rattle.aqlx_top.specs.Run.{Program, rows_for}

-- what is written for the text of a program that is checked: `ok` and LF
pub record GivesOk (text bytes : List ℕ) : Type 0 where
  pub program : Program
  pub holds : HoldsProgram text program
  pub bytes_are : bytes ≡ codes "ok\n"

-- for one whose plan is shown: the text of a plan of it, whose nodes read nodes before them, and whose outputs show nodes
pub record GivesPlan (text bytes : List ℕ) : Type 0 where
  pub plan : Parts
  pub nodes : IsPlan plan.nodes
  pub outputs : AreOutputs plan.nodes plan.outputs
  pub planned : IsPlanOf text plan
  pub bytes_are : bytes ≡ text_of plan

-- the summary of a program on documents: how many they are, and how many rows each output has over all of them
abbrev pub summary_on : Program → List Doc → List ℕ
summary_on program docs = summary_of program.outputs (tally_of (length program.outputs) (map (rows_for program) docs))
