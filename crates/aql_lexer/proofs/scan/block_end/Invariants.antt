use Rattle.std.proofs.Common.{◌≡◌, drop}
use Rattle.aql_lexer.specs.Scanning.{block_end_from}
use Rattle.aql_lexer.proofs.scan.block_end.Given as goal

abbrev pub invariant-loop-at : goal.invariant-loop-at
invariant-loop-at l = block_end_from l.at (drop l.at l.z) ≡ block_end_from 0 l.z
