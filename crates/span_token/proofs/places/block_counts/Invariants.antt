use Rattle.std.proofs.Common.{◌≡◌, ◌<◌, ◌+◌, ◌*◌, ℕ, length, get_or, take}
use Rattle.span_token.specs.Leads.{leads}
use Rattle.span_token.proofs.places.block_counts.Given as goal

abbrev pub invariant-loop-block : goal.invariant-loop-block
invariant-loop-block l =
    (length l.counts.items ≡ l.block + 1) × (l.passed ≡ leads (take (64 * l.block) l.bytes))
    × ((k : ℕ) → k < l.block + 1 → get_or l.counts.items k 0 ≡ leads (take (64 * k) l.bytes))
