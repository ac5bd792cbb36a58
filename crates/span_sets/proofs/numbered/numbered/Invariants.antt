use Rattle.std.proofs.Common.{◌≡◌, map, length, get_or, vec_len, All, None}
use Rattle.span_sets.specs.Consolidation.{target_of}
use Rattle.span_sets.specs.Orders.{numbered_from}
use Rattle.span_sets.proofs.numbered.numbered.Given as goal

abbrev pub invariant-loop-row : goal.invariant-loop-row
invariant-loop-row l = record {
  numbered : map (λ p. (p.row, p.number)) l.order.items ≡ numbered_from 0 l.yielded;
  counted : vec_len l.order ≡ length l.yielded;
  found : All (λ p. target_of p.target ≡ get_or (map target_of l.targets) p.number None) l.order.items;
}
