-- What a refusal of the lexer says of the text.
use Rattle.std.specs.Prelude.{ℕ, List, ⊤}
use Rattle.span_token.specs.declared.refusal.Failure.{Failure}
use Rattle.span_token.specs.declared.refusal.Failure.TheVariants.{OutOfMemory, Fault}
use Rattle.aql_lexer.specs.Reading.{IsFault}
use Rattle.aql_lexer.specs.declared.token.LexFault.{LexFault}

-- the kept byte is the text's fault; want of memory says nothing of the text
abbrev pub IsFaultOf : List ℕ → Failure LexFault → Type 0
IsFaultOf text OutOfMemory = ⊤
IsFaultOf text (Fault fault) = IsFault text fault.place
