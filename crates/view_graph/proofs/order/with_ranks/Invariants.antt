use Rattle.std.proofs.Common.{◌≡◌, ◌++◌, ℕ, map, drop, All}
use Rattle.aql_syntax.specs.Views.{statement_of}
use Rattle.view_graph.specs.declared.search.Mark.TheVariants.{Ranked}
use Rattle.view_graph.specs.Uses.{views_from, views_of}
use Rattle.view_graph.specs.Search.{mark_at}
use Rattle.view_graph.proofs.order.with_ranks.Given as goal

abbrev pub invariant-loop-index : goal.invariant-loop-index
invariant-loop-index l =
    (map (λ view. view.1) l.views.items ++ views_from l.index (map statement_of (drop l.index l.statements)) ≡ views_of (map statement_of l.statements))
    × All (λ view. (rank : ℕ) → mark_at l.marks view.1 ≡ Ranked rank → view.0 ≡ rank) l.views.items
