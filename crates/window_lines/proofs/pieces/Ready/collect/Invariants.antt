use Rattle.std.proofs.Common.{◌≡◌}
use Rattle.window_lines.proofs.pieces.Ready.collect.Given as goal

abbrev pub invariant-loop : goal.invariant-loop
invariant-loop g l = (l.desk.first ≡ l.initial.desk.first) × (l.desk.taken ≡ l.initial.desk.taken)
