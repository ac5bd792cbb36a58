use Rattle.std.proofs.Common.{◌≡◌, ◌+◌, map, drop}
use Rattle.aql_syntax.specs.Views.{term_of, item_of}
use Rattle.clause_types.specs.Keys.{key_number}
use Rattle.clause_types.proofs.key.key_number.Given as goal

abbrev pub invariant-loop-number : goal.invariant-loop-number
invariant-loop-number l =
    l.number + key_number (map item_of l.items) (map term_of (drop l.number l.keys)) (item_of l.item) ≡ key_number (map item_of l.items) (map term_of l.keys) (item_of l.item)
