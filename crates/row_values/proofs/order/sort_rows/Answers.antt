use Rattle.std.proofs.Common.{sym, ap, subst}
use Rattle.aql_base.specs.Bags.{SameBag}
use Rattle.row_values.specs.Rows.{RowList, IsInOrder}
use Rattle.row_values.specs.SortedRows.{SameBag-sorted, IsInOrder-sorted}
use Rattle.row_values.proofs.order.sort_rows.Goals as goal

pub returns : goal.returns
returns c =
    let same = sym (ap (λ (list : RowList). list.rows) c.sort.ensures) in
    record {
      ok = c.sort.ensures;
      bag = subst (SameBag c.args.rows.now.rows) same (SameBag-sorted c.args.rows.now.rows);
      in_order = subst IsInOrder same (IsInOrder-sorted c.args.rows.now.rows);
      err = tt;
    }
