-- The faults of a program file's bytes, each with its exact cause.
use Rattle.std.specs.Prelude.{◌≡◌, ℕ, ◌+◌, ◌<◌, ◌≤◌, ◌⊎◌, List, length, map, slice_index_or, ⊤}
use Rattle.std.specs.Str.{IsUtf8, IsValidUpTo}
use Rattle.span_token.specs.declared.refusal.Failure.{Failure}
use Rattle.span_token.specs.declared.refusal.Failure.TheVariants.{OutOfMemory, Fault}
use Rattle.aql_lexer.specs.Kinds.{Kind, Token}
use Rattle.aql_lexer.specs.Reading.{IsFault}
use Rattle.aql_syntax.specs.Trees.{Statement}
use Rattle.aql_syntax.specs.Programs.{runs_of}
use Rattle.aql_parser.specs.Faults.{kinds_in, IsSyntaxFault}
use Rattle.aql_parser.specs.Nesting.{IsNesting, nesting_limit}
use Rattle.aqlx_top.specs.Limits.{program_limit, statement_limit}
use Rattle.aqlx_top.specs.declared.status.ProgramFault.{ProgramFault}
use Rattle.aqlx_top.specs.declared.status.ProgramFault.TheVariants.{Text, Large, Lex, Syntax, Name, Mistyped}
use Rattle.aqlx_top.specs.declared.status.What.TheVariants.{Bytes, Statements, Nesting}
use Rattle.aqlx_top.specs.ProgramTexts.{ReadsAs, IsWithinLimits, HoldsStatements}
use Rattle.aqlx_top.specs.Run.{Program, Typed, program_of}
use Rattle.aql_types.specs.declared.fault.TypeFault.{TypeFault}
use Rattle.clause_types.specs.declared.fault.TypeRule.{TypeRule}
use Rattle.clause_types.specs.Known.{known_of_program}
use Rattle.aql_types.specs.Programs.{IsTyped, IsTypeFault}
use Rattle.aql_tables.specs.Programs.{lists_of}
use Rattle.view_graph.specs.Answers.{IsNameFault, IsResolved, IsCycleFault}

-- more statements than a program may have
abbrev pub HasTooMany : List Kind → ℕ → Type 0
HasTooMany kinds number = (number ≡ length (runs_of kinds)) × (statement_limit < number)

-- no more statements than that, and deeper parentheses than they may be
abbrev pub IsTooDeep : List Kind → ℕ → Type 0
IsTooDeep kinds number = (length (runs_of kinds) ≤ statement_limit) × IsNesting kinds number × (nesting_limit < number)

-- the byte at which the token with this number begins
abbrev pub begin_of : List Token → ℕ → ℕ
begin_of tokens number = slice_index_or (map (λ token. token.begin) tokens) number 0

-- the names are resolved, and a rule of types is broken in that statement, by a part whose first token begins at that byte
pub record IsMistyped (tokens : List Token) (statements : List Statement) (statement place : ℕ) (rule : TypeRule) : Type 0 where
  pub order : List ℕ
  pub resolved : IsResolved statements order
  pub fault : TypeFault
  pub first : IsTypeFault (known_of_program statements) statements order fault
  pub statement_is : statement ≡ fault.statement
  pub place_is : place ≡ begin_of tokens fault.at
  pub rule_is : rule ≡ fault.rule

-- the bytes of a program file have the fault
abbrev pub HasFault : List ℕ → ProgramFault → Type 0
HasFault bytes (Large Bytes number) = (program_limit < length bytes) × (number ≡ program_limit + 1)
HasFault bytes (Text place) = (length bytes ≤ program_limit) × IsValidUpTo bytes place
HasFault bytes (Lex fault) = (length bytes ≤ program_limit) × IsUtf8 bytes × IsFault bytes fault.place
HasFault bytes (Large Statements number) = (tokens : List Token) × ReadsAs bytes tokens × HasTooMany (kinds_in tokens) number
HasFault bytes (Large Nesting number) = (tokens : List Token) × ReadsAs bytes tokens × IsTooDeep (kinds_in tokens) number
HasFault bytes (Syntax fault) =
    (tokens : List Token) × ReadsAs bytes tokens × IsWithinLimits (kinds_in tokens) × IsSyntaxFault tokens fault.statement fault.line
HasFault bytes (Name fault) = (statements : List Statement) × HoldsStatements bytes statements × IsNameFault statements fault
HasFault bytes (Mistyped statement place rule) =
    (statements : List Statement) × (holds : HoldsStatements bytes statements) × IsMistyped holds.tokens statements statement place rule

-- both are cycles
abbrev pub AreCycles : ProgramFault → ProgramFault → Type 0
AreCycles (Name fault) (Name other) = IsCycleFault fault × IsCycleFault other
AreCycles fault other = ⊥

-- the faults are one, but that any of several cycles may be told
abbrev pub AreOneFault : ProgramFault → ProgramFault → Type 0
AreOneFault fault other = (fault ≡ other) ⊎ AreCycles fault other

-- the bytes have the fault and no other
pub record HasOnlyFault (bytes : List ℕ) (fault : ProgramFault) : Type 0 where
  pub has : HasFault bytes fault
  pub only : (other : ProgramFault) → HasFault bytes other → AreOneFault other fault

-- memory ran out, or the bytes have the fault and no other
abbrev pub HasCause : List ℕ → Failure ProgramFault → Type 0
HasCause bytes OutOfMemory = ⊤
HasCause bytes (Fault fault) = HasOnlyFault bytes fault

-- the kept number of statements or of nested parentheses is more than a program may have
abbrev pub IsTooLargeFor : List Kind → Failure ProgramFault → Type 0
IsTooLargeFor kinds (Fault (Large Statements number)) = HasTooMany kinds number
IsTooLargeFor kinds (Fault (Large Nesting number)) = IsTooDeep kinds number
IsTooLargeFor kinds _ = ⊥

-- the bytes have no fault
abbrev pub IsFaultless : List ℕ → Type 0
IsFaultless bytes = (fault : ProgramFault) → ¬ (HasFault bytes fault)

-- the bytes are the text of the program, and have no fault
pub record HoldsProgram (bytes : List ℕ) (program : Program) : Type 0 where
  pub statements : List Statement
  pub holds : HoldsStatements bytes statements
  pub order : List ℕ
  pub resolved : IsResolved statements order
  pub typed : Typed
  pub is_typed : IsTyped (known_of_program statements) (lists_of statements) statements order typed
  pub program_is : program ≡ program_of typed
  pub faultless : IsFaultless bytes
