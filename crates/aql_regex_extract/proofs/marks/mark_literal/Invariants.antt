use Rattle.std.proofs.Common.{All, take}
use Rattle.aql_regex_extract.specs.ByteSets.{Has, Widens}
use Rattle.aql_regex_extract.proofs.marks.mark_literal.Given as goal

abbrev pub invariant-loop-byte : goal.invariant-loop-byte
invariant-loop-byte l = All (Has l.set) (take l.byte-index l.bytes) × Widens l.initial.set l.set
