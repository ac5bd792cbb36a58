-- The exit status of each status, and its line on standard error.
use Rattle.std.specs.Prelude.{ℕ, List, [], ◌∷◌, ◌++◌, codes}
use Rattle.std.specs.Fmt.{decimal}
use Rattle.std.specs.List.{flat_map}
use Rattle.corpus_json.specs.Limits.{line_limit}
use Rattle.aqlx_top.specs.Devices.{SinkEnds, GainedFront, HasSent, IsUntouched}
use Rattle.aqlx_top.specs.declared.status.Status.{Status}
use Rattle.aqlx_top.specs.declared.status.Status.TheVariants.{Done, Program, Usage, Corpus, ReadFault, WriteFault}
use Rattle.aqlx_top.specs.declared.status.ProgramFault.{ProgramFault}
use Rattle.aqlx_top.specs.declared.status.ProgramFault.TheVariants.{Text, Large, Lex, Syntax, Name, Mistyped}
use Rattle.aqlx_top.specs.declared.status.What.{What}
use Rattle.aqlx_top.specs.declared.status.What.TheVariants.{Bytes, Statements, Nesting}
use Rattle.aqlx_top.specs.declared.status.CorpusFault.{CorpusFault}
use Rattle.aqlx_top.specs.declared.status.CorpusFault.TheVariants.{BadLine, LineLong, CorpusLarge}
use Rattle.view_graph.specs.declared.fault.NameFault.{NameFault}
use Rattle.aqlx_top.specs.TypeTexts.{rule_text}
use Rattle.view_graph.specs.declared.fault.NameFault.TheVariants.{DuplicateName, UnknownView, UnknownDictionary, DuplicateOutput, Cycle}

-- the exit status
abbrev pub code_of : Status → ℕ
code_of Done = 0
code_of (Program _) = 1
code_of Usage = 2
code_of (Corpus _) = 3
code_of ReadFault = 4
code_of WriteFault = 5

-- a line on standard error
abbrev pub error_line : List ℕ → List ℕ
error_line text = codes "aqlx: " ++ text ++ 10 ∷ []

abbrev pub what_text : What → List ℕ
what_text Bytes = codes "bytes"
what_text Statements = codes "statements"
what_text Nesting = codes "nesting"

-- names with a comma before each
abbrev pub after_commas : List (List ℕ) → List ℕ
after_commas names = flat_map (λ name. codes ", " ++ name) names

-- names with a comma between two
abbrev pub listed : List (List ℕ) → List ℕ
listed [] = []
listed (name ∷ names) = name ++ after_commas names

-- what is said of a statement
abbrev pub statement_text : ℕ → List ℕ → List ℕ
statement_text statement text = codes "statement " ++ decimal statement ++ codes ": " ++ text

-- and of a place in it
abbrev pub place_text : ℕ → ℕ → List ℕ → List ℕ
place_text statement place text = codes "statement " ++ decimal statement ++ codes ", byte " ++ decimal place ++ codes ": " ++ text

abbrev pub name_text : NameFault → List ℕ
name_text (DuplicateName statement name) = statement_text statement (name ++ codes " is defined again")
name_text (UnknownView statement name) = statement_text statement (codes "no view " ++ name)
name_text (UnknownDictionary statement name) = statement_text statement (codes "no dictionary " ++ name)
name_text (DuplicateOutput statement name) = statement_text statement (codes "output " ++ name ++ codes " again")
name_text (Cycle views) = codes "cycle: " ++ listed views

abbrev pub program_text : ProgramFault → List ℕ
program_text (Text place) = codes "program is not UTF-8 at byte " ++ decimal place
program_text (Large what number) = codes "program too large: " ++ what_text what ++ codes " " ++ decimal number
program_text (Lex fault) = codes "no token at byte " ++ decimal fault.place
program_text (Syntax fault) = codes "syntax: statement " ++ decimal fault.statement ++ codes ", line " ++ decimal fault.line
program_text (Name fault) = name_text fault
program_text (Mistyped statement place rule) = place_text statement place (rule_text rule)

abbrev pub corpus_text : CorpusFault → List ℕ
corpus_text (BadLine line) = codes "corpus line " ++ decimal line ++ codes " is not a document"
corpus_text (LineLong line) = codes "corpus line " ++ decimal line ++ codes " is longer than " ++ decimal line_limit ++ codes " bytes"
corpus_text CorpusLarge = codes "corpus too large"

-- what a status writes on standard error: one line, and nothing where all is done or writing failed
abbrev pub message_of : Status → List ℕ
message_of Done = []
message_of (Program fault) = error_line (program_text fault)
message_of Usage = error_line (codes "usage: aqlx MODE PROGRAM [--workers N]")
message_of (Corpus fault) = error_line (corpus_text fault)
message_of ReadFault = error_line (codes "read fault")
message_of WriteFault = []

-- the status's line is written on standard error and flushed, and no call failed; with `Done` and `WriteFault` nothing
-- is written there
abbrev pub HasLine : SinkEnds → Status → Type 0
HasLine err Done = IsUntouched err
HasLine err WriteFault = IsUntouched err
HasLine err status = HasSent err (message_of status)

-- a beginning of the status's line is written on standard error
abbrev pub HasLinePart : SinkEnds → Status → Type 0
HasLinePart err status = GainedFront err (message_of status)
