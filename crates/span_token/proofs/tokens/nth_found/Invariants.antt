use Rattle.std.proofs.Common.{◌≡◌, length, chars, slice_get}
use Rattle.span_token.specs.Tokens.{tokens_of}
use Rattle.span_token.proofs.tokens.nth_found.Given as goal

abbrev pub invariant-loop-span : goal.invariant-loop-span
invariant-loop-span l = slice_get l.scan l.before ≡ slice_get (tokens_of (chars l.text)) l.i

abbrev pub decreases-loop-span : goal.decreases-loop-span
decreases-loop-span l = length l.scan
