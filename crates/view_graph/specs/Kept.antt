-- What a graph keeps.
use Rattle.std.specs.Prelude.{◌≡◌, ℕ, ◌-◌, ◌<◌, ◌^◌, List, Option, length, slice_index, All}
use Rattle.aql_syntax.specs.Trees.{Statement}
use Rattle.aql_syntax.specs.Shapes.{IsFormed}
use Rattle.view_graph.specs.Answers.{IsResolved}
use Rattle.view_graph.specs.Indexes.{IndexesNames}

-- the index of each number of the order, by the index of its statement
abbrev pub IsIndexed : List ℕ → List ℕ → Type 0
IsIndexed order indexes =
    (index : ℕ) → index < length order → (slice_index order index - 1 < length indexes) × (slice_index indexes (slice_index order index - 1) ≡ index)

-- statements of the shape that the grammar asks for, the order, the names that are defined, and where each view stands in the order
pub record KeepsGraph (program : List Statement) (order : List ℕ) (views : List ℕ → Option (Option ℕ)) (dictionaries : List ℕ → Option ℕ) (indexes : List ℕ) : Type 0 where
  pub short : length program < 2 ^ 32
  pub formed : All IsFormed program
  pub resolved : IsResolved program order
  pub names : IndexesNames program views dictionaries
  pub indexed : IsIndexed order indexes
