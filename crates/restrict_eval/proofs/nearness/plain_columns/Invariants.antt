use Rattle.std.proofs.Common.{◌≡◌, map, take, Some}
use Rattle.scalar_ops.specs.Views.{term_of}
use Rattle.restrict_eval.specs.Nears.{plain_columns}
use Rattle.restrict_eval.proofs.nearness.plain_columns.Given as goal

abbrev pub invariant-loop-item : goal.invariant-loop-item
invariant-loop-item l = plain_columns (map term_of (take l.item-index l.items)) ≡ Some l.columns
