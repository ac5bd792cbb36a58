use Rattle.std.proofs.Common.{arith, rules}
use Rattle.aql_bench.proofs.EmptyItems.{empty-result}
use Rattle.aql_bench.proofs.items.work_off.Goals as goal

pub new-requires-then-claim : goal.new-requires-then-claim
new-requires-then-claim g c = record { is_result = empty-result _ _ c.args.d c.requires.empty _ _ c.requires.there (first_of (omega arith, search rules)) (first_of (search rules, cc)) }
