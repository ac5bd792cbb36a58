use Rattle.std.proofs.Common.{◌≡◌, map, take, drop}
use Rattle.aql_syntax.specs.Views.{term_of, item_of}
use Rattle.clause_types.specs.Clauses.{orders_faults}
use Rattle.clause_types.specs.Keys.{item_number}
use Rattle.clause_types.specs.Knowns.{known_of}
use Rattle.clause_types.specs.Views.{scope_of}
use Rattle.clause_types.proofs.clause.order.Given as goal

abbrev pub invariant-loop-key : goal.invariant-loop-key
invariant-loop-key l =
    (l.numbers.items ≡ map (item_number (map item_of l.items)) (map term_of (take l.key-index l.keys)))
    × (orders_faults (known_of l.known) (scope_of l.scope) (map item_of l.items) (map term_of (drop l.key-index l.keys))
    ≡ orders_faults (known_of l.known) (scope_of l.scope) (map item_of l.items) (map term_of l.keys))
