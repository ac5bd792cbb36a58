-- Views with their ranks, in order.
use Rattle.std.specs.Prelude.{◌≡◌, ℕ, ◌+◌, List, map, All}
use Rattle.std.specs.Ordering.{ordering_then, nat_cmp}
use Rattle.std.specs.declared.cmp.Ordering.{Ordering}
use Rattle.std.specs.List.Sorted.{IsPermutation, IsSorted}
use Rattle.aql_syntax.specs.Trees.{Statement}
use Rattle.view_graph.specs.declared.search.Mark.{Mark}
use Rattle.view_graph.specs.declared.search.Mark.TheVariants.{Ranked}
use Rattle.view_graph.specs.Uses.{views_of}
use Rattle.view_graph.specs.Search.{mark_at}

-- by rank, and then by index
abbrev pub by_rank : ℕ × ℕ → ℕ × ℕ → Ordering
by_rank a b = ordering_then (nat_cmp a.0 b.0) (nat_cmp a.1 b.1)

-- the views of the program, each with the rank that it is marked with
pub record HaveRanks (program : List Statement) (marks : List Mark) (views : List (ℕ × ℕ)) : Type 0 where
  pub indexes : map (λ view. view.1) views ≡ views_of program
  pub ranks : All (λ view. (rank : ℕ) → mark_at marks view.1 ≡ Ranked rank → view.0 ≡ rank) views

-- the numbers of the views, from 1, sorted so
pub record IsNumbering (program : List Statement) (marks : List Mark) (order : List ℕ) : Type 0 where
  pub with_ranks : List (ℕ × ℕ)
  pub sorted : List (ℕ × ℕ)
  pub are_ranked : HaveRanks program marks with_ranks
  pub permuted : IsPermutation with_ranks sorted
  pub in_order : IsSorted by_rank sorted
  pub numbers : order ≡ map (λ view. view.1 + 1) sorted
