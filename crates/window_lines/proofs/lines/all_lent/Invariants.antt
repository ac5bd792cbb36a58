use Rattle.std.proofs.Common.{◌≡◌, map, take}
use Rattle.std.specs.Arc.{arc_value}
use Rattle.window_lines.proofs.lines.all_lent.Given as goal

abbrev pub invariant-loop-list : goal.invariant-loop-list
invariant-loop-list l = map (λ list. list.now) l.shown.items ≡ map arc_value (take l.list-index l.rows)
