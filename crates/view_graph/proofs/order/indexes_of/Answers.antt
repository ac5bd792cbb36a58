use Rattle.std.proofs.Common.{arith}
use Rattle.view_graph.proofs.Finding.{order_short}
use Rattle.view_graph.proofs.order.indexes_of.Goals as goal

pub overflow_cast-index : goal.overflow_cast-index
overflow_cast-index c = omega (arith, order_short c.args.order.now c.args.count c.requires.within c.requires.distinct, c.loop-index-test.true, c.requires.short)
