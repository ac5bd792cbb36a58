use Rattle.std.proofs.Common.{ap, ◌∙◌, is_eq}
use Rattle.row_values.specs.RowOrder.{same_from_cmp}
use Rattle.row_values.proofs.order.same_value.Goals as goal

pub returns : goal.returns
returns c = same_from_cmp _ _ c.is_eq.result (c.is_eq.ensures ∙ ap is_eq c.compare_values.ensures)
