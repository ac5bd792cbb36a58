use Rattle.std.proofs.Common.{length}
use Rattle.aql_lexer.specs.Kinds.{kinds_of}
use Rattle.aql_parser.proofs.RunRules.{HasMeasured}
use Rattle.aql_parser.proofs.measuring.measure.Given as goal

abbrev pub invariant-loop-rest : goal.invariant-loop-rest
invariant-loop-rest l = HasMeasured (kinds_of l.toks) (kinds_of l.rest) l.statements l.nesting

abbrev pub decreases-loop-rest : goal.decreases-loop-rest
decreases-loop-rest l = length l.rest
