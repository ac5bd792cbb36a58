-- What the walk answers.
use Rattle.std.specs.Prelude.{ℕ, List}
use Rattle.view_graph.specs.declared.search.Walk.{Walk}
use Rattle.view_graph.specs.declared.search.Walk.TheVariants.{Ranked, Circle}
use Rattle.view_graph.specs.Names.{AllDiffer}
use Rattle.view_graph.specs.Graphs.{IsClosed}
use Rattle.view_graph.specs.Search.{Edge, IsDone}

abbrev pub IsWalk : List (List ℕ) → Walk → Type 0
IsWalk uses (Ranked marks) = IsDone uses marks.items
IsWalk uses (Circle views) = IsClosed (Edge uses) views.items × AllDiffer views.items
