use Rattle.std.proofs.Common.{◌≡◌, ◌+◌, length, chars}
use Rattle.span_token.specs.Tokens.{tokens_of}
use Rattle.span_token.proofs.tokens.count_found.Given as goal

abbrev pub invariant-loop-count : goal.invariant-loop-count
invariant-loop-count l = l.count + length l.scan ≡ length (tokens_of (chars l.text))

abbrev pub decreases-loop-count : goal.decreases-loop-count
decreases-loop-count l = length l.scan
