use Rattle.std.proofs.Common.{◌≡◌}
use Rattle.std.specs.List.{AllWithin}
use Rattle.aql_base.specs.Bags.{count_of}
use Rattle.aql_base.proofs.bag.counted_alike.Given as goal

abbrev pub invariant-loop-x : goal.invariant-loop-x
invariant-loop-x g l = AllWithin (λ x. count_of g.T.Ord.cmp x l.a ≡ count_of g.T.Ord.cmp x l.b) l.items 0 l.x-index
