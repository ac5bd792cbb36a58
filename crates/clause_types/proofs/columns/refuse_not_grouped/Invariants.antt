use Rattle.std.proofs.Common.{◌≡◌, map, drop}
use Rattle.aql_syntax.specs.Views.{term_of, item_of}
use Rattle.clause_types.specs.Clauses.{not_grouped}
use Rattle.clause_types.specs.Views.{item_seen}
use Rattle.clause_types.proofs.columns.refuse_not_grouped.Given as goal

abbrev pub invariant-loop-number : goal.invariant-loop-number
invariant-loop-number l =
    not_grouped (map item_of l.items) (map term_of l.keys) (map item_of (drop l.number l.items)) (map item_seen (drop l.number l.checked))
    ≡ not_grouped (map item_of l.items) (map term_of l.keys) (map item_of l.items) (map item_seen l.checked)
