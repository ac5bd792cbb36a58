use Rattle.std.proofs.Common.{◌≡◌, vec_len}
use Rattle.window_lines.specs.Hands.{HaveTools}
use Rattle.window_lines.proofs.hands.hands_for.Given as goal

abbrev pub invariant-loop : goal.invariant-loop
invariant-loop l = (vec_len l.hands ≡ l.counter) × HaveTools l.tables l.hands.items
