use Rattle.std.proofs.Common.{◌∙◌, arith}
use Rattle.run_tables_tests.proofs.JoinedPlans.{right_there, join_there, empty_there}
use Rattle.run_tables_tests.proofs.computing.rows_of_join.Goals as goal

pub compute-requires-then-len-eq0-clause-inputs : goal.compute-requires-then-len-eq0-clause-inputs
compute-requires-then-len-eq0-clause-inputs g c =
    empty_there g.W.Work.plan g.W.Work.docs c.args.d c.requires.joined c.requires.there c.in_ok-left.left.now c.rows.result.now (c.in_ok-left.ensures ∙ c.in_ok-found-2.ensures.item) c.rows.ensures.rows
    (omega (arith, c.len.ensures, c.if-len-eq0.true))

pub compute-requires-3-clause-inputs : goal.compute-requires-3-clause-inputs
compute-requires-3-clause-inputs g c =
    right_there g.W.Work.plan g.W.Work.docs c.args.d c.requires.joined c.requires.there c.in_ok-text.text.now c.in_ok-left.left.now c.rows.result.now (c.in_ok-text.ensures ∙ c.in_ok-found.ensures.item)
    (c.in_ok-left.ensures ∙ c.in_ok-found-2.ensures.item) c.rows.ensures.rows c.rows.ensures.is_result (λ e. omega (arith, e, c.len.ensures, c.if-len-eq0.false))

pub compute-requires-4-clause-inputs : goal.compute-requires-4-clause-inputs
compute-requires-4-clause-inputs g c =
    join_there g.W.Work.plan g.W.Work.docs c.args.d c.requires.joined c.requires.there c.in_ok-left.left.now c.in_ok-right.right.now (c.in_ok-left.ensures ∙ c.in_ok-found-2.ensures.item)
    (c.in_ok-right.ensures ∙ c.in_ok-found-4.ensures.item)
