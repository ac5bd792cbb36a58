use Rattle.std.proofs.Common.{◌≡◌, ◌++◌, map, flat_map, drop}
use Rattle.aql_syntax.specs.Views.{statement_of}
use Rattle.aql_tables.specs.Mentions.{mentions_in_statement}
use Rattle.aql_tables.proofs.walk.mentions.Given as goal

abbrev pub invariant-loop-one : goal.invariant-loop-one
invariant-loop-one l =
    l.out ++ flat_map mentions_in_statement (map statement_of (drop l.one-index l.statements)) ≡ flat_map mentions_in_statement (map statement_of l.statements)
