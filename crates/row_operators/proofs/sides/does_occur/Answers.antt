use Rattle.std.proofs.Common.{◌∙◌}
use Rattle.row_operators.proofs.Searching.{found}
use Rattle.row_operators.proofs.sides.does_occur.Goals as goal

pub returns : goal.returns
returns c =
    c.is_ok.ensures.value ∙ found (λ row. row.now) c.args.rows.now c.args.row.now c.binary_search.result c.requires.in_order c.binary_search.ensures.bound c.binary_search.ensures.position
