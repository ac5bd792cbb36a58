use Rattle.std.proofs.Common.{◌≡◌, ◌<◌, ℕ, []}
use Rattle.view_graph.specs.declared.search.Mark.TheVariants.{Unseen}
use Rattle.view_graph.specs.Search.{mark_at, IsSearch}
use Rattle.view_graph.proofs.search.rank_all.Given as goal

abbrev pub invariant-loop-view : goal.invariant-loop-view
invariant-loop-view l = IsSearch l.uses l.marks.items [] × ((met : ℕ) → met < l.view → ¬ (mark_at l.marks.items met ≡ Unseen))
