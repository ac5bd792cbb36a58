use Rattle.std.proofs.Common.{ℕ, ◌⊎◌}
use Rattle.std.specs.List.{Contains}
use Rattle.algebra.specs.Items.{output_nodes}
use Rattle.share_plan.specs.Marks.{IsMarked}
use Rattle.share_plan.specs.Walks.{IsWalked, IsWay, steps_left}
use Rattle.share_plan.proofs.ordering.walk.Given as goal

abbrev pub invariant-way : goal.invariant-way
invariant-way l = record {
  walked : IsWalked l.plan.nodes (output_nodes l.plan) l.order.numbers.items l.order.marks.items;
  way : IsWay l.plan.nodes (output_nodes l.plan) l.order.numbers.items l.order.marks.items l.way.items;
  more : (i : ℕ) → IsMarked l.fn.order.marks.items i → IsMarked l.order.marks.items i;
  on : Contains l.way.items l.out ⊎ IsMarked l.order.marks.items l.out;
}

abbrev pub decreases-way : goal.decreases-way
decreases-way l = steps_left l.order.marks.items l.way.items
