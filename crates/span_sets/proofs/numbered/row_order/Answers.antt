use Rattle.std.proofs.Common.{◌≡◌, ℕ, List, None, map, get_or}
use Rattle.std.specs.Option.{option_cmp}
use Rattle.std.proofs.lemmas.List.Sorted.{All-permutation}
use Rattle.row_values.specs.Datums.{Datum}
use Rattle.span_sets.specs.declared.numbered.NumberedRow.{NumberedRow}
use Rattle.span_sets.specs.Consolidation.{target_of}
use Rattle.span_sets.proofs.RowOrders.{row_order_of-shown, IsSorted-first_two}
use Rattle.span_sets.specs.LawProofs.SpanLists.{span_cmp}
use Rattle.span_sets.proofs.numbered.row_order.Goals as goal

abbrev shown : NumberedRow → List Datum × ℕ
shown p = (p.row, p.number)

pub returns-clause-order : goal.returns-clause-order
returns-clause-order c =
    row_order_of-shown shown c.args.rows.items c.in_ok-order.order.items c.sort_unstable.new.self.items c.in_ok-order.ensures.order c.sort_unstable.ensures.permutation
    (IsSorted-first_two shown (λ (a b : NumberedRow). option_cmp span_cmp a.target b.target) c.sort_unstable.new.self.items c.sort_unstable.ensures.sorted)

pub returns-clause-targets : goal.returns-clause-targets
returns-clause-targets c =
    All-permutation (λ (p : NumberedRow). target_of p.target ≡ get_or (map target_of c.args.targets.now) p.number None) c.in_ok-order.order.items c.sort_unstable.new.self.items c.sort_unstable.ensures.permutation c.in_ok-order.ensures.targets
