use Rattle.std.proofs.Common.{All, take}
use Rattle.aql_regex_extract.specs.ByteSets.{Has}
use Rattle.aql_regex_extract.proofs.byte_set.ByteSet.has_each.Given as goal

abbrev pub invariant-loop-byte : goal.invariant-loop-byte
invariant-loop-byte l = All (Has l.self) (take l.byte-index l.bytes)
