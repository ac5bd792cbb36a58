use Rattle.std.proofs.Common.{◌≡◌, map, get_or, [], filter, false}
use Rattle.std.specs.List.{range_with_len}
use Rattle.span_sets.proofs.lent.copies.Given as goal

abbrev pub invariant-loop-i : goal.invariant-loop-i
invariant-loop-i l = l.out ≡ record { width = l.width; rows = map (λ k. get_or (map (λ row. row.now) l.rows) k []) (filter (λ k. get_or l.marks k false) (range_with_len 0 l.i)) }
