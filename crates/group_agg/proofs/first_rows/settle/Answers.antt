use Rattle.std.proofs.Common.{◌∙◌, ap, take}
use Rattle.aql_base.specs.SortingLaws.{sorted_by-unique}
use Rattle.group_agg.specs.LawProofs.Pairs.{pair_cmp_total, pair_cmp_exact}
use Rattle.group_agg.proofs.first_rows.settle.Goals as goal

pub returns : goal.returns
returns c = c.truncate.ensures.items ∙ ap (take c.args.n) (sorted_by-unique pair_cmp_total pair_cmp_exact c.args.held.now.items c.sort_unstable.new.self.items c.sort_unstable.ensures.sorted c.sort_unstable.ensures.permutation)
