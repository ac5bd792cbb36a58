use Rattle.std.proofs.Common.{◌+◌, ◌*◌}
use Rattle.std.specs.Prelude.{max}
use Rattle.push_select.proofs.joining.+pairing.Given as goal

abbrev pub decreases-paired : goal.decreases-paired
decreases-paired l = 4 * l.pair.left + 3

abbrev pub decreases-three_paired : goal.decreases-three_paired
decreases-three_paired l = 4 * l.pair.left + 2

abbrev pub decreases-turned : goal.decreases-turned
decreases-turned l = 4 * max l.three.first l.three.second + 4

abbrev pub decreases-swapped : goal.decreases-swapped
decreases-swapped l = 4 * l.pair.left + 1

abbrev pub decreases-columns_paired : goal.decreases-columns_paired
decreases-columns_paired l = 4 * l.pair.left + 1
