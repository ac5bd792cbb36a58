use Rattle.std.proofs.Common.{arith, rules}
use Rattle.std.proofs.lemmas.Grind.{common_steps}
use Rattle.run_tables_tests.proofs.DocumentPlans.{document_is_result}
use Rattle.run_tables_tests.proofs.results.document_result.Goals as goal

pub new-requires-2 : goal.new-requires-2
new-requires-2 g c = record { is_result = document_is_result _ _ c.args.doc.now _ c.requires.plan c.requires.doc (first_of (search rules, cc, grind (arith, common_steps))) }
