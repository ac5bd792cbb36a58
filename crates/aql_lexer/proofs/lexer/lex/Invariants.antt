use Rattle.std.proofs.Common.{length, map}
use denote.Text.{Utf8}
use denote.Shadow.{shadow}
use Rattle.aql_lexer.specs.Kinds.{token_of}
use Rattle.aql_lexer.proofs.Progress.{HasRead}
use Rattle.aql_lexer.proofs.lexer.lex.Given as goal

abbrev pub invariant-loop-rest : goal.invariant-loop-rest
invariant-loop-rest l = shadow (Utf8 l.rest) × HasRead l.text l.rest l.line (map token_of l.toks.items)

abbrev pub decreases-loop-rest : goal.decreases-loop-rest
decreases-loop-rest l = length l.rest
