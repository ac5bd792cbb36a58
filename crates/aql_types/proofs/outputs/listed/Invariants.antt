use Rattle.std.proofs.Common.{◌≡◌, ◌++◌, map, drop}
use Rattle.aql_syntax.specs.Views.{statement_of}
use Rattle.aql_types.specs.Programs.{view_seen, outputs_in}
use Rattle.aql_types.proofs.outputs.listed.Given as goal

abbrev pub invariant-loop-statement : goal.invariant-loop-statement
invariant-loop-statement l =
    l.outputs.items ++ outputs_in (map view_seen l.views) (map statement_of (drop l.statement-index l.statements))
    ≡ outputs_in (map view_seen l.views) (map statement_of l.statements)
