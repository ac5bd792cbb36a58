use Rattle.std.proofs.Common.{◌≡◌, sym, subst, ◌∙◌, Bor, map}
use Rattle.aql_base.specs.SortingLaws.{sorted_from_answer}
use Rattle.row_values.specs.declared.row.Row.{Row}
use Rattle.aql_base.specs.Bags.{SameBag}
use Rattle.row_values.specs.Rows.{IsInOrder, sorted}
use Rattle.row_values.specs.RowOrder.{row_cmp_total}
use Rattle.row_values.specs.SortedRows.{SameBag-sorted, IsInOrder-sorted, sorted-in_order}
use Rattle.row_values.proofs.Sorted.{sorted-from_shown}
use Rattle.row_values.proofs.rows.Rows.sorted.Goals as goal
use Rattle.row_values.proofs.rows.Rows.sorted.Goals.{then-not-is_sorted, else-not-is_sorted}

pub returns : goal.returns
returns c =
    let is : map (λ (row : Bor Row). row.now) c.if-not-is_sorted.out.items ≡ sorted c.args.self.now.rows = elim c.if-not-is_sorted.branch [
      | then-not-is_sorted w ↦ rw (w.out-is)
          (sorted-from_shown (λ (row : Bor Row). row.now) c.args.self.now.rows c.in_ok-out.out.items w.sort_unstable.new.self.items c.in_ok-out.ensures w.sort_unstable.ensures.permutation w.sort_unstable.ensures.sorted)
      | else-not-is_sorted w ↦ rw (w.out-is)
          (c.in_ok-out.ensures ∙ rw (← c.self.view_is)
          (sym (sorted-in_order c.self.inside.rows.items (rw (← c.as_slice.ensures.value) ((sorted_from_answer row_cmp_total _ _ c.is_sorted.ensures.cases).0 w.if-not-is_sorted.false)))))
    ] in
    record {
      rows = is;
      bag = subst (SameBag c.args.self.now.rows) (sym is) (SameBag-sorted c.args.self.now.rows);
      in_order = subst IsInOrder (sym is) (IsInOrder-sorted c.args.self.now.rows);
    }
