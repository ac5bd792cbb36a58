use Rattle.std.proofs.Common.{◌≡◌, ◌++◌, map, drop}
use Rattle.aql_syntax.specs.Views.{statement_of}
use Rattle.clause_types.specs.Knowns.{known_of}
use Rattle.aql_types.specs.Programs.{view_seen, faults_of_program, views_of_program}
use Rattle.aql_types.proofs.ProgramFirsts.{faults_from, views_from}
use Rattle.aql_types.proofs.program.views.Given as goal

abbrev pub invariant-loop-number : goal.invariant-loop-number
invariant-loop-number l =
    (map view_seen l.views.items ++ views_from (known_of l.known) (map statement_of l.known.graph.now.0) (map view_seen l.views.items) (drop l.number-index l.order)
    ≡ views_of_program (known_of l.known) (map statement_of l.known.graph.now.0) l.order)
    × (faults_from (known_of l.known) (map statement_of l.known.graph.now.0) (map view_seen l.views.items) (drop l.number-index l.order)
    ≡ faults_of_program (known_of l.known) (map statement_of l.known.graph.now.0) l.order)
