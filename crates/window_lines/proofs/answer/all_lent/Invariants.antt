use Rattle.std.proofs.Common.{◌≡◌, map, take}
use Rattle.window_lines.proofs.answer.all_lent.Given as goal

abbrev pub invariant-loop-list : goal.invariant-loop-list
invariant-loop-list l = map (λ list. list.now) l.lent.items ≡ take l.list-index l.rows
