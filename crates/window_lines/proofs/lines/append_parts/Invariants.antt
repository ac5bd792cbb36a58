use Rattle.std.proofs.Common.{◌≡◌, ◌*◌, ◌++◌, length, take}
use Rattle.std.specs.List.{flat_map}
use Rattle.run_pool.specs.Lines.{line_from}
use Rattle.window_lines.proofs.lines.append_parts.Given as goal

abbrev pub invariant-loop-part : goal.invariant-loop-part
invariant-loop-part g l = l.pending ≡ l.initial.pending ++ flat_map (line_from (g.P.Pool.means l.pool) l.plan) (take (length l.yielded * l.size) l.docs)
