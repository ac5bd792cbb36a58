use Rattle.std.proofs.Common.{◌≡◌}
use Rattle.window_lines.proofs.pieces.Ready.answer.Given as goal

abbrev pub invariant-pieces : goal.invariant-pieces
invariant-pieces g l = (l.hand.tools ≡ l.initial.hand.tools) × (g.P.Pool.means l.pool ≡ g.P.Pool.means l.initial.pool)
