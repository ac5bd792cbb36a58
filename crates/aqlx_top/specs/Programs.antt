-- A compiled program, and what it was compiled from. Only private clauses cite this.
use Rattle.std.specs.Prelude.{◌≡◌, ℕ, List, ⊤}
use Rattle.span_token.specs.declared.refusal.Failure.{Failure}
use Rattle.span_token.specs.declared.refusal.Failure.TheVariants.{OutOfMemory, Fault}
use Rattle.aql_lexer.specs.Kinds.{Token}
use Rattle.aql_syntax.specs.Trees.{Statement}
use Rattle.view_graph.specs.Answers.{IsNameFault, IsResolved}
use Rattle.clause_types.specs.Known.{known_of_program}
use Rattle.aql_types.specs.Programs.{IsTyped}
use Rattle.aql_tables.specs.Programs.{lists_of}
use Rattle.algebra.specs.Plans.{Parts}
use Rattle.plan_maker.specs.Promised.{IsNormal}
use Rattle.plan_maker.specs.Shown.{ShowsProgram}
use Rattle.aqlx_top.specs.declared.program.Compiled.{Compiled}
use Rattle.aqlx_top.specs.declared.status.ProgramFault.{ProgramFault}
use Rattle.aqlx_top.specs.declared.status.ProgramFault.TheVariants.{Name, Mistyped}
use Rattle.aqlx_top.specs.Planned.{names_in}
use Rattle.aqlx_top.specs.Plans.{IsPlanOf}
use Rattle.aqlx_top.specs.ProgramFaults.{IsMistyped}
use Rattle.aqlx_top.specs.Run.{Typed}

-- the text holds a program, and this is it, compiled: its plan, and the outputs that are written, which are the plan's
pub record IsCompiledFrom (text : List ℕ) (compiled : Compiled) : Type 0 where
  pub planned : IsPlanOf text compiled.plan
  pub outputs : compiled.outputs.items ≡ names_in compiled.plan

-- the statements are a program's, and this is its plan, which is normal
pub record IsBuiltFrom (statements : List Statement) (plan : Parts) : Type 0 where
  pub order : List ℕ
  pub resolved : IsResolved statements order
  pub typed : Typed
  pub is_typed : IsTyped (known_of_program statements) (lists_of statements) statements order typed
  pub shows : ShowsProgram typed plan
  pub normal : IsNormal plan

-- memory ran out, or the statements of these tokens have this fault of names or of types
abbrev pub IsRefusedFor : List Token → List Statement → Failure ProgramFault → Type 0
IsRefusedFor tokens statements OutOfMemory = ⊤
IsRefusedFor tokens statements (Fault (Name fault)) = IsNameFault statements fault
IsRefusedFor tokens statements (Fault (Mistyped statement place rule)) = IsMistyped tokens statements statement place rule
IsRefusedFor tokens statements (Fault _) = ⊥
