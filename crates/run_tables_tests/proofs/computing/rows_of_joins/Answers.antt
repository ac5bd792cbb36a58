use Rattle.std.proofs.Common.{◌∙◌, arith}
use Rattle.run_tables_tests.proofs.JoinedPlans.{four_each, few_items}
use Rattle.run_tables_tests.proofs.computing.rows_of_joins.Goals as goal

pub new-requires-2 : goal.new-requires-2
new-requires-2 g c = record { few = few_items g.W.Work.plan c.args.plan.now g.W.Work.docs c.args.docs.now c.requires.joined c.requires.work.0 c.requires.work.1 (omega (arith, c.requires.two)) }

pub rows_of_join-requires-clause-cells : goal.rows_of_join-requires-clause-cells
rows_of_join-requires-clause-cells g c =
    c.in_ok-results.ensures.cells ∙ four_each g.W.Work.plan c.args.plan.now g.W.Work.docs c.args.docs.now c.requires.joined c.requires.work.0 c.requires.work.1

pub rows_of_join-requires-2-clause-cells : goal.rows_of_join-requires-2-clause-cells
rows_of_join-requires-2-clause-cells g c =
    c.in_ok-results.ensures.cells ∙ four_each g.W.Work.plan c.args.plan.now g.W.Work.docs c.args.docs.now c.requires.joined c.requires.work.0 c.requires.work.1
