use Rattle.std.proofs.Common.{rules}
use Rattle.run_core_tests.proofs.Matching.{matches-are}
use Rattle.run_core_tests.proofs.tests.matches_of.Goals as goal

pub returns-clause-rows : goal.returns-clause-rows
returns-clause-rows c =
    matches-are c.args.tools.now c.args.doc.now c.single-row.result c.new-out.result c.push_found.new.into c.new-out.ensures (search rules) c.in_ok-push_found.ensures.rows
