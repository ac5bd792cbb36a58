use Rattle.std.proofs.Common.{not, map, List, subst, sym}
use Rattle.std.specs.List.{All}
use Rattle.std.proofs.lemmas.List.Elements.{All-filter}
use Rattle.row_values.specs.Datums.{Datum, IsOfDocument}
use Rattle.row_values.specs.Rows.{RowsLieIn, does_occur}
use Rattle.row_operators.proofs.sides.without.Goals as goal

pub returns-clause-lies : goal.returns-clause-lies
returns-clause-lies c = λ doc lies.
    subst (RowsLieIn doc) (sym c.absent_from-out.ensures.rows)
    (All-filter (λ (row : List Datum). not (does_occur (map (λ other. other.now) c.as_slice.result.now) row)) (All (IsOfDocument doc)) c.args.left.rows lies)
