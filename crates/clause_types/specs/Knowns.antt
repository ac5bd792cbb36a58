-- How definitions see what the code knows of a program.
use Rattle.std.specs.Prelude.{map}
use Rattle.aql_syntax.specs.Views.{statement_of}
use Rattle.clause_types.specs.declared.known.Known as declared
use Rattle.clause_types.specs.Known.{Known, known_in}

abbrev pub known_of : declared.Known → Known
known_of known = known_in (map statement_of known.graph.now.0) known.tables.now
