use Rattle.std.proofs.Common.{◌≡◌}
use Rattle.plan_stages.proofs.running.write_lines.Given as goal

abbrev pub invariant-loop : goal.invariant-loop
invariant-loop g l = l.tools ≡ l.schedule.lists
