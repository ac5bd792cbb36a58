use Rattle.std.proofs.Common.{◌≡◌, ℕ, ◌<◌, ◌≤◌, length}
use Rattle.aql_regex_extract.specs.ByteSets.{Has, Widens}
use Rattle.aql_regex_extract.proofs.byte_set.ByteSet.add_range.Given as goal

abbrev pub invariant-loop-byte : goal.invariant-loop-byte
invariant-loop-byte l =
    (length l.self.flags ≡ 256) × ((b : ℕ) → l.first ≤ b → b < l.byte → Has l.self b) × Widens l.initial.self l.self
