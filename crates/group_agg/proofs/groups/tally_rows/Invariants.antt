use Rattle.std.proofs.Common.{take}
use Rattle.group_agg.specs.Tallies.{AreKeys, AreTallied}
use Rattle.group_agg.proofs.GroupKeys.{AreBounded}
use Rattle.group_agg.proofs.groups.tally_rows.Given as goal

abbrev pub invariant-loop-row : goal.invariant-loop-row
invariant-loop-row l = record {
  keys : AreKeys l.keys (take l.row-index l.rows) l.group_keys.keys;
  tallies : AreTallied l.keys l.aggs (take l.row-index l.rows) l.group_keys.keys l.columns.items;
  bounded : AreBounded l.row-index l.columns.items;
}
