use Rattle.std.proofs.Common.{◌≡◌, ◌+◌, map, drop}
use Rattle.std.specs.List.{position_or_len}
use Rattle.aql_syntax.specs.Views.{term_of, item_of}
use Rattle.clause_types.specs.Keys.{is_item, item_number}
use Rattle.clause_types.proofs.key.item_number.Given as goal

abbrev pub invariant-loop-number : goal.invariant-loop-number
invariant-loop-number l =
    l.number + position_or_len (is_item (map item_of l.items) (term_of l.key)) (map item_of (drop l.number l.items)) ≡ item_number (map item_of l.items) (term_of l.key)
