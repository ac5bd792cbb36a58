use Rattle.std.proofs.Common.{rules}
use Rattle.worker_pool_tests.proofs.Planning.{outputs_valid}
use Rattle.worker_pool_tests.proofs.plans.showing.Goals as goal

pub new-requires-3 : goal.new-requires-3
new-requires-3 c = record { outputs = outputs_valid c.args.nodes (record { names = c.in_ok-names.names; node = c.args.node }) c.requires.there c.requires.shape (search rules) _ c.push-2.new.self.items c.nodes-2.view_is (search rules) }
