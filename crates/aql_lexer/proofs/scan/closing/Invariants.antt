use Rattle.std.proofs.Common.{◌≡◌, drop, false}
use Rattle.aql_lexer.specs.Scanning.{closing_from}
use Rattle.aql_lexer.proofs.scan.closing.Given as goal

abbrev pub invariant-loop-at : goal.invariant-loop-at
invariant-loop-at l = closing_from l.quote l.in_pair l.at (drop l.at l.z) ≡ closing_from l.quote false 0 l.z
