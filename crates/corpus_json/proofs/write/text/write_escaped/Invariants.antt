use Rattle.std.proofs.Common.{◌≡◌, ◌≤◌, ◌-◌, ◌++◌, length, drop}
use Rattle.json.specs.Print.{escape}
use Rattle.corpus_json.proofs.write.text.write_escaped.Given as goal

abbrev pub invariant-text : goal.invariant-text
invariant-text l = (l.at ≤ length l.text) × (l.out.items ++ escape (drop l.at l.text) ≡ l.fn.out.items ++ escape l.text)

abbrev pub decreases-text : goal.decreases-text
decreases-text l = length l.text - l.at
