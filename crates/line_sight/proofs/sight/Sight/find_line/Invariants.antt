use Rattle.std.proofs.Common.{◌≡◌, ◌+◌, ◌-◌, ◌≤◌, length, take}
use Rattle.corpus_json.specs.Lines.{HasNoLf}
use Rattle.line_sight.specs.Seen.{Sees}
use Rattle.line_sight.proofs.sight.Sight.find_line.Given as goal

abbrev pub invariant-looks : goal.invariant-looks
invariant-looks g l = record {
  at : l.self.at ≡ l.initial.self.at;
  sees : Sees l.seen l.self;
  within : l.searched ≤ length l.self.bytes;
  none : HasNoLf (take l.searched l.self.bytes);
}

abbrev pub decreases-looks : goal.decreases-looks
decreases-looks g l = l.seen.most - (l.self.at + length l.self.bytes)
