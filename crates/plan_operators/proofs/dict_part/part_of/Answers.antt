use Rattle.std.proofs.Common.{◌∙◌, List, ap, sym, subst}
use Rattle.std.proofs.lemmas.List.{take_all}
use Rattle.row_values.specs.Datums.{Datum}
use Rattle.row_values.specs.Rows.{RowList, RowsLieIn}
use Rattle.algebra.specs.Operators.{part_of}
use Rattle.plan_operators.proofs.Lying.{part-lies}
use Rattle.plan_operators.proofs.dict_part.part_of.Goals as goal

pub returns-clause-lies : goal.returns-clause-lies
returns-clause-lies c = λ doc lies.
    let all = take_all c.loop-row.row-index c.as_slice-row-items.result.now c.loop-row-test.false ∙ c.as_slice-row-items.ensures in
    subst (RowsLieIn doc) (sym (ap (λ (list : RowList). list.rows) c.loop-row.invariant ∙ ap (λ (rows : List (List Datum)). part_of c.args.number rows) all))
    (part-lies doc c.args.number c.args.rows.now.rows lies)
