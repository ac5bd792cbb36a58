use Rattle.std.proofs.Common.{◌≡◌, ◌++◌, map, take}
use Rattle.aql_regex_extract.specs.Matches.{extents_of}
use Rattle.aql_typed.specs.Meaning.{group_value}
use Rattle.row_operators.proofs.found.row_with.Given as goal

abbrev pub invariant-loop-group : goal.invariant-loop-group
invariant-loop-group l = l.row ≡ l.lead ++ map group_value (extents_of (take l.group-index l.groups))
