use Rattle.std.proofs.Common.{◌≡◌, ◌++◌, drop, string_bytes}
use Rattle.plan_maker.specs.PlanTexts.{node_lines}
use Rattle.plan_maker.proofs.text.push_nodes.Given as goal

abbrev pub invariant-loop-i : goal.invariant-loop-i
invariant-loop-i l = string_bytes l.text ++ node_lines l.i (drop l.i l.nodes) ≡ string_bytes l.fn.text ++ node_lines 0 l.nodes
