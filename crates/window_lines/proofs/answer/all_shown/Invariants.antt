use Rattle.std.proofs.Common.{◌≡◌, map, take, None, slice_index_or}
use Rattle.plan_operators.specs.Boards.{rows_there}
use Rattle.window_lines.proofs.answer.all_shown.Given as goal

abbrev pub invariant-loop-out : goal.invariant-loop-out
invariant-loop-out l =
    map (λ list. list.now) l.shown.items ≡ map (λ out. rows_there (slice_index_or l.board out.node None)) (take l.out-index l.outputs)
