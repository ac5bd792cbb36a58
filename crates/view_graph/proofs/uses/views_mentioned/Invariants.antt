use Rattle.std.proofs.Common.{List, map, take}
use Rattle.aql_syntax.specs.Trees.{Statement}
use Rattle.view_graph.specs.Mentions.{named_of}
use Rattle.view_graph.specs.Indexes.{entry_of, IndexesNames}
use Rattle.view_graph.specs.Lookups.{AreViewsNamed}
use Rattle.view_graph.proofs.uses.views_mentioned.Given as goal

abbrev pub invariant-loop-mention : goal.invariant-loop-mention
invariant-loop-mention l =
    (program : List Statement) → IndexesNames program (entry_of l.names.views) (entry_of l.names.dictionaries) → AreViewsNamed program (map named_of (take l.mention-index l.mentions)) l.used
