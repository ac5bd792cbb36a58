use Rattle.std.proofs.Common.{◌≡◌, ◌+◌, map, drop}
use Rattle.std.specs.List.{position_or_len}
use Rattle.std.specs.Str.{bytes_eq}
use Rattle.aql_types.specs.Programs.{view_seen}
use Rattle.aql_types.specs.Queries.{View}
use Rattle.aql_types.proofs.outputs.view_number.Given as goal

abbrev pub invariant-loop-index : goal.invariant-loop-index
invariant-loop-index l =
    l.index + position_or_len (λ (v : View). bytes_eq v.name l.name) (map view_seen (drop l.index l.views))
    ≡ position_or_len (λ (v : View). bytes_eq v.name l.name) (map view_seen l.views)
