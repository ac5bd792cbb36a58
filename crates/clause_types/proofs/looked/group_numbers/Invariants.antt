use Rattle.std.proofs.Common.{◌≡◌, map, take, drop}
use Rattle.aql_syntax.specs.Views.{group_of}
use Rattle.clause_types.specs.Extractions.{bad_groups, group_numbers}
use Rattle.clause_types.proofs.looked.group_numbers.Given as goal

abbrev pub invariant-loop-group : goal.invariant-loop-group
invariant-loop-group l =
    (l.numbers.items ≡ group_numbers (map group_of (take l.group-index l.groups)))
    × (bad_groups l.count (map group_of (drop l.group-index l.groups)) ≡ bad_groups l.count (map group_of l.groups))
