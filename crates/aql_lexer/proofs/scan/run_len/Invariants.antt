use Rattle.std.proofs.Common.{◌≡◌, ◌+◌, drop}
use Rattle.std.specs.List.{prefix_len}
use Rattle.aql_lexer.specs.Scanning.{goes_on}
use Rattle.aql_lexer.proofs.scan.run_len.Given as goal

abbrev pub invariant-loop-at : goal.invariant-loop-at
invariant-loop-at l = l.at + prefix_len (goes_on l.run) (drop l.at l.z) ≡ prefix_len (goes_on l.run) l.z
