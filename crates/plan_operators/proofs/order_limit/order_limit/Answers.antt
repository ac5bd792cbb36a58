use Rattle.std.proofs.Common.{subst}
use Rattle.row_values.specs.Rows.{RowsLieIn}
use Rattle.plan_operators.specs.declared.input.Input.{Input}
use Rattle.plan_operators.specs.Given.{input_rows}
use Rattle.plan_operators.proofs.order_limit.order_limit.Goals as goal

pub returns-in-Given-clause-lies : goal.returns-in-Given-clause-lies
returns-in-Given-clause-lies c = λ doc lies. c.cut.ensures.lies doc (subst (λ (i : Input). RowsLieIn doc (input_rows i).rows) c.in-Given.is lies)

pub returns-in-Lent-clause-lies : goal.returns-in-Lent-clause-lies
returns-in-Lent-clause-lies c = λ doc lies. c.cut_copies.ensures.lies doc (subst (λ (i : Input). RowsLieIn doc (input_rows i).rows) c.in-Lent.is lies)
