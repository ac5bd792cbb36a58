use Rattle.std.proofs.Common.{◌+◌, ◌*◌}
use Rattle.std.specs.Prelude.{max}
use Rattle.push_select.proofs.selection.+selection.Given as goal

abbrev pub decreases-selected : goal.decreases-selected
decreases-selected l = 4 * l.input + 1

abbrev pub decreases-pairs_selected : goal.decreases-pairs_selected
decreases-pairs_selected l = 4 * l.input

abbrev pub decreases-joins_selected : goal.decreases-joins_selected
decreases-joins_selected l = 4 * l.input

abbrev pub decreases-both_selected : goal.decreases-both_selected
decreases-both_selected l = 4 * l.input

abbrev pub decreases-columns_selected : goal.decreases-columns_selected
decreases-columns_selected l = 4 * l.input

abbrev pub decreases-pair_narrowed : goal.decreases-pair_narrowed
decreases-pair_narrowed l = 4 * max l.pair.left l.pair.right + 3

abbrev pub decreases-narrowed : goal.decreases-narrowed
decreases-narrowed l = 4 * l.input + 2
