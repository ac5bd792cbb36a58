use Rattle.std.proofs.Common.{take}
use Rattle.std.specs.List.{All}
use Rattle.algebra.specs.Items.{output_nodes}
use Rattle.share_plan.specs.Marks.{IsMarked}
use Rattle.share_plan.specs.Walks.{IsWalked}
use Rattle.share_plan.proofs.ordering.order_of.Given as goal

abbrev pub invariant-loop-out : goal.invariant-loop-out
invariant-loop-out l = record {
  walked : IsWalked l.plan.nodes (output_nodes l.plan) l.order.numbers.items l.order.marks.items;
  shown : All (λ out. IsMarked l.order.marks.items out.node) (take l.out-index l.out-items);
}
