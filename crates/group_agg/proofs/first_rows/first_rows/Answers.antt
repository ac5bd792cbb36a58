use Rattle.std.proofs.Common.{◌≡◌, List, length, All, subst, sym}
use Rattle.row_values.specs.Datums.{Datum}
use Rattle.group_agg.specs.LawProofs.LimitLaws.{held_wide}
use Rattle.group_agg.proofs.first_rows.first_rows.Goals as goal

pub rows_alone-requires : goal.rows_alone-requires
rows_alone-requires c =
    let wide = c.width-width.ensures.each_row in
    subst (All (λ (p : List Datum × List Datum). length p.1 ≡ c.width-width.result)) (sym c.in_ok-held.ensures) (held_wide c.args.keys.now c.args.n c.width-width.result c.as_slice.result.now
    (subst (All (λ (row : List Datum). length row ≡ c.width-width.result)) (sym c.as_slice.ensures) (subst (λ w. All (λ (row : List Datum). length row ≡ w) c.args.rows.now.rows) (sym c.width-width.ensures.width) wide)))
