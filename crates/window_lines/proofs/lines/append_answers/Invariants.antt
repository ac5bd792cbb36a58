use Rattle.std.proofs.Common.{◌≡◌, ◌++◌, take}
use Rattle.std.specs.List.{flat_map}
use Rattle.run_pool.specs.Lines.{line_from}
use Rattle.window_lines.proofs.lines.append_answers.Given as goal

abbrev pub invariant-loop-d : goal.invariant-loop-d
invariant-loop-d g l = l.pending.items ≡ l.initial.pending.items ++ flat_map (line_from (g.P.Pool.means l.pool) l.plan) (take l.d l.docs)
