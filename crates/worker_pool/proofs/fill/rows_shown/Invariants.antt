use Rattle.std.proofs.Common.{◌≡◌, take, map, Some}
use Rattle.std.specs.Arc.{arc_value}
use Rattle.std.specs.List.{AllZip}
use Rattle.worker_pool.specs.Pages.{rows_on}
use Rattle.worker_pool.proofs.fill.rows_shown.Given as goal

abbrev pub invariant-each : goal.invariant-each
invariant-each g l = AllZip (λ out list. rows_on l.page.items out.node ≡ Some list) (take l.i g.W.Work.plan.outputs) (map arc_value l.shown.items)
