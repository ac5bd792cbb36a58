use Rattle.std.proofs.Common.{◌≡◌, ◌≤◌, ◌+◌, length, chars, nat_le}
use Rattle.std.specs.List.{count_by}
use Rattle.span_token.specs.Tokens.{tokens_of}
use Rattle.span_token.proofs.tokens.count_ended.Given as goal

abbrev pub invariant-loop-span : goal.invariant-loop-span
invariant-loop-span l = record {
  count : l.count + count_by (λ t. nat_le t.end l.place) l.scan ≡ count_by (λ t. nat_le t.end l.place) (tokens_of (chars l.text));
  room : l.count + length l.scan ≤ length (tokens_of (chars l.text));
}

abbrev pub decreases-loop-span : goal.decreases-loop-span
decreases-loop-span l = length l.scan
