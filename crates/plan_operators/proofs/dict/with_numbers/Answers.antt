use Rattle.std.proofs.Common.{rules, ◌≡◌, length, arith}
use Rattle.std.specs.List.{All}
use Rattle.row_values.specs.Datums.{IsOfDocument}
use Rattle.row_operators.specs.Passes.{holds-at}
use Rattle.plan_operators.proofs.dict.with_numbers.Goals as goal

pub push_matches-requires : goal.push_matches-requires
push_matches-requires c =
    let lies = holds-at (All (IsOfDocument c.args.doc.now)) c.args.rows.now.rows c.as_slice-row-items.result.now c.loop-row.row-index c.row-item.result c.as_slice-row-items.ensures (search rules) c.row-item.is c.requires.in_document in
    let wide = holds-at (λ row. length row ≡ c.args.rows.now.width) c.args.rows.now.rows c.as_slice-row-items.result.now c.loop-row.row-index c.row-item.result c.as_slice-row-items.ensures (search rules) c.row-item.is c.width.ensures.each_row in
    record {
      in_document = lies;
      width = omega (arith, wide, c.loop-row.invariant.width);
    }
