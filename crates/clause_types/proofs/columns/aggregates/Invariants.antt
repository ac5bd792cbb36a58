use Rattle.std.proofs.Common.{◌≡◌, ◌++◌, map, drop, length}
use Rattle.aql_syntax.specs.Views.{term_of, item_of}
use Rattle.clause_types.specs.Selections.{aggs_of}
use Rattle.clause_types.specs.Views.{item_seen}
use Rattle.clause_types.proofs.columns.aggregates.Given as goal

abbrev pub invariant-loop-number : goal.invariant-loop-number
invariant-loop-number l =
    l.aggs.items ++ aggs_of (map item_of l.items) (map term_of l.keys) l.column (map item_of (drop l.number l.items)) (map item_seen (drop l.number l.checked))
    ≡ aggs_of (map item_of l.items) (map term_of l.keys) (length (map term_of l.keys)) (map item_of l.items) (map item_seen l.checked)
