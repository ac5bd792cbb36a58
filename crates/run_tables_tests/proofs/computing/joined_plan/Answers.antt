use Rattle.std.proofs.Common.{arith, rules}
use Rattle.std.proofs.lemmas.Grind.{common_steps}
use Rattle.run_tables_tests.proofs.JoinedPlans.{joined_outputs}
use Rattle.run_tables_tests.proofs.computing.joined_plan.Goals as goal

pub new-requires-5 : goal.new-requires-5
new-requires-5 c = record {
  outputs = joined_outputs c.add-4.new.self c.push-3.new.self.items (record { names = c.in_ok-names.names; node = c.in_ok-node.node }) (first_of (search rules, cc, grind (arith, common_steps)))
      (first_of (search rules, cc, grind (arith, common_steps))) (first_of (search rules, cc, grind (arith, common_steps))) (first_of (search rules, cc, grind (arith, common_steps)));
}
