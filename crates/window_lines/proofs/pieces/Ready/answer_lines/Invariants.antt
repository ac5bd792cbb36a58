use Rattle.std.proofs.Common.{◌≡◌, ◌-◌}
use Rattle.line_sight.specs.Seen.{Sees}
use Rattle.line_parts.specs.Turns.{IsPart}
use Rattle.window_lines.proofs.pieces.Ready.answer_lines.Given as goal

abbrev pub invariant-lines : goal.invariant-lines
invariant-lines g l = record {
  tools : l.hand.tools ≡ l.initial.hand.tools;
  as_found : g.P.Pool.means l.pool ≡ g.P.Pool.means l.initial.pool;
  sees : Sees l.self.seen l.sight;
  at : l.sight.at ≡ l.part.to;
  part : IsPart g.W.Turn.piece g.W.Turn.shown l.part;
}

abbrev pub decreases-lines : goal.decreases-lines
decreases-lines g l = l.until - l.part.to
