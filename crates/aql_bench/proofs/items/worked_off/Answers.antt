use Rattle.std.proofs.Common.{◌∙◌}
use Rattle.aql_bench.proofs.EmptyItems.{two_each, few_items}
use Rattle.aql_bench.proofs.items.worked_off.Goals as goal

pub new-requires-2 : goal.new-requires-2
new-requires-2 g c = record { few = few_items _ _ _ _ c.requires.empty c.requires.work.0 c.requires.work.1 c.requires.few }

pub work_all-requires-clause-cells : goal.work_all-requires-clause-cells
work_all-requires-clause-cells g c = c.in_ok-results.ensures.cells ∙ two_each _ _ _ _ c.requires.empty c.requires.work.0 c.requires.work.1
