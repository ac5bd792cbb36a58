use Rattle.row_values.proofs.Kept.{row_cmp-values}
use Rattle.row_values.proofs.row.RowOrd.cmp.Goals as goal

pub returns : goal.returns
returns c = rw (← c.self.view_is, ← c.other.view_is) (rw (c.cmp.ensures, c.as_slice.ensures, c.as_slice-2.ensures) (row_cmp-values c.self.inside.values.items c.other.inside.values.items))
