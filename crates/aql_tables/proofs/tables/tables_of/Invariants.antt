use Rattle.std.proofs.Common.{map, take}
use Rattle.aql_syntax.specs.Views.{statement_of}
use Rattle.aql_tables.specs.Kept.{entry_of, mention_of, number_by, HasDicts, HasPatterns}
use Rattle.aql_tables.proofs.tables.tables_of.Given as goal

abbrev pub invariant-loop-mention : goal.invariant-loop-mention
invariant-loop-mention l = record {
  patterns : HasPatterns (map mention_of (take l.mention-index l.mentions)) l.patterns.compiled.items (entry_of l.patterns.verdicts);
  dicts : HasDicts (map statement_of l.graph.0) (map mention_of (take l.mention-index l.mentions)) l.dicts.keys.items l.dicts.uses.items (number_by (entry_of l.dicts.exact) (entry_of l.dicts.other));
}
