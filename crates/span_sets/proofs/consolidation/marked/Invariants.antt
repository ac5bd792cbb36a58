use Rattle.std.proofs.Common.{◌≡◌, ◌≤◌, length, map, get_or, [], filter, false, All, vec_len}
use Rattle.std.specs.List.{range_with_len}
use Rattle.span_sets.proofs.consolidation.marked.Given as goal

abbrev pub invariant-loop-numbered : goal.invariant-loop-numbered
invariant-loop-numbered l = record {
  counted : l.i ≡ length l.yielded;
  few : vec_len l.out ≤ l.i;
  picked : l.out.items ≡ map (λ k. get_or (map (λ p. p.row) l.fn.order.items) k []) (filter (λ k. get_or l.marks k false) (range_with_len 0 l.i));
  width : All (λ row. length row ≡ l.width) l.out.items;
}
