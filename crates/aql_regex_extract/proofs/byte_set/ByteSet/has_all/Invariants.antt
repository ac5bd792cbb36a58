use Rattle.std.proofs.Common.{ℕ, ◌<◌}
use Rattle.aql_regex_extract.specs.ByteSets.{Has}
use Rattle.aql_regex_extract.proofs.byte_set.ByteSet.has_all.Given as goal

abbrev pub invariant-loop-byte : goal.invariant-loop-byte
invariant-loop-byte l = (b : ℕ) → b < l.byte → Has l.self b
