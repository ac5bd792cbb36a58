use Rattle.std.proofs.Common.{◌-◌, length}
use Rattle.corpus_json.proofs.Flat.{IsReadTo}
use Rattle.corpus_json.proofs.read.flat.flat_object.Given as goal

abbrev pub invariant-members : goal.invariant-members
invariant-members l = IsReadTo l.text l.at l.strings

abbrev pub decreases-members : goal.decreases-members
decreases-members l = length l.text - l.at
