use Rattle.std.proofs.Common.{◌≡◌, map, take}
use Rattle.std.specs.Arc.{arc_value}
use Rattle.window_lines.proofs.answers.kept.Given as goal

abbrev pub invariant-loop-list : goal.invariant-loop-list
invariant-loop-list l = map arc_value l.kept.items ≡ map arc_value (take l.list-index l.rows)
