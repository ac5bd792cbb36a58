use Rattle.std.proofs.Common.{arith}
use Rattle.std.proofs.lemmas.Str.{IsCharBoundary-after_ascii}
use Rattle.aql_lexer.proofs.text.between.Goals as goal

pub range-requires-clause-start_boundary : goal.range-requires-clause-start_boundary
range-requires-clause-start_boundary c = λ _. IsCharBoundary-after_ascii c.args.text.now 0 c.utf8.text (omega arith) c.requires.1
