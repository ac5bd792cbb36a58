use Rattle.std.proofs.Common.{◌≡◌, ◌++◌, map, take}
use Rattle.aql_syntax.specs.Views.{group_of}
use Rattle.clause_types.specs.Extractions.{names_of_groups}
use Rattle.clause_types.specs.Views.{label_of}
use Rattle.clause_types.proofs.extraction.append_groups.Given as goal

abbrev pub invariant-loop-group : goal.invariant-loop-group
invariant-loop-group l = map label_of l.labels.items ≡ map label_of l.initial.labels.items ++ names_of_groups (map group_of (take l.group-index l.groups))
