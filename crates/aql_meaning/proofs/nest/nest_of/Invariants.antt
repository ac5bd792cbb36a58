use Rattle.std.proofs.Common.{map, take}
use Rattle.scalar_ops.specs.Views.{term_of}
use Rattle.aql_meaning.specs.Nests.{IsNest, terms_lent}
use Rattle.aql_meaning.proofs.nest.nest_of.Given as goal

abbrev pub invariant-loop-source : goal.invariant-loop-source
invariant-loop-source l = IsNest (map (λ source. source.now) (take l.source-index l.sources)) (map term_of l.conds) l.levels.items (terms_lent l.last.items) l.width
