use Rattle.aql_lexer.specs.Kinds.{kinds_of}
use Rattle.aql_parser.proofs.RunRules.{HasBegun}
use Rattle.aql_parser.proofs.measuring.first_run.Given as goal

abbrev pub invariant-loop-i : goal.invariant-loop-i
invariant-loop-i l = HasBegun (kinds_of l.toks) l.i l.opened l.closed l.nesting
