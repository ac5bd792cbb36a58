-- A circle begun elsewhere.
use Rattle.aql_syntax.specs.Trees.{Statement}
use Rattle.view_graph.specs.Uses.{CreatesView}
use Rattle.std.specs.Prelude.{◌≡◌, ℕ, ◌<◌, ◌≤◌, List, ◌++◌, take, drop, length, slice_index, All}

-- the circle is turned so that its least view stands first
pub record IsBegunAtLeast (views turned : List ℕ) : Type 0 where
  pub at : ℕ
  pub within : at < length views
  pub turn : turned ≡ drop at views ++ take at views
  pub least : All (λ view. slice_index views at ≤ view) views

-- each of the indexes is that of a statement which creates a view
abbrev pub AreViews : List Statement → List ℕ → Type 0
AreViews program views = All (λ view. (name : List ℕ) × CreatesView program view name) views
