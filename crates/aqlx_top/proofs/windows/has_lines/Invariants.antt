use Rattle.std.proofs.Common.{◌≤◌, length}
use Rattle.aqlx_top.proofs.windows.has_lines.Given as goal

abbrev pub invariant-loop : goal.invariant-loop
invariant-loop l = l.at ≤ length l.bytes
