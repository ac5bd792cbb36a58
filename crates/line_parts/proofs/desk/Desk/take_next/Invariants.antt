use Rattle.std.proofs.Common.{◌≡◌, length}
use Rattle.line_parts.proofs.desk.Desk.take_next.Given as goal

abbrev pub invariant-loop-k : goal.invariant-loop-k
invariant-loop-k g l = (l.self.first ≡ l.initial.self.first) × (l.self.taken ≡ l.initial.self.taken) × (l.self.kept ≡ l.initial.self.kept)
