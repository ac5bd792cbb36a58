use denote.Param.Send.{sendable}
use Rattle.std.proofs.Crossing.{crosses}
use Rattle.scalar_ops.proofs.Crosses.{tools}
use Rattle.scalar_ops_tests.proofs.tests.evaluate_in_threads.Goals as goal

pub for_each_mut-requires-send-T : goal.for_each_mut-requires-send-T
for_each_mut-requires-send-T g c κs within = search (tools, crosses, sendable) depth 60 fits 20000
