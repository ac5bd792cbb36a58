-- Cycles, chains and ranks of a relation between numbers, and their order by rank.
use Rattle.std.specs.Prelude.{◌≡◌, ℕ, ◌-◌, ◌<◌, ◌≤◌, ◌⊎◌, List, [], ◌∷◌, length, slice_index, All, AllPairs}
use Rattle.std.specs.List.{AllAdjacentBelow}
use Rattle.std.specs.List.Sorted.{IsPermutation}
use Rattle.view_graph.specs.Names.{AllDiffer}

module _ (Uses : ℕ → ℕ → Type 0) where
  -- one or more, each using the next, and the last using the first
  pub record IsClosed (views : List ℕ) : Type 0 where
    pub some : 0 < length views
    pub each_uses_next : AllAdjacentBelow Uses views (length views)
    pub last_uses_first : Uses (slice_index views (length views - 1)) (slice_index views 0)

  -- a cycle: distinct ones, begun at the least
  pub record IsCycle (views : List ℕ) : Type 0 where
    pub closed : IsClosed views
    pub distinct : AllDiffer views
    pub begun_at_least : All (λ view. slice_index views 0 ≤ view) views

  -- a chain below `top`: it uses the first of the list, and each of the list uses the next
  abbrev pub IsChainBelow : ℕ → List ℕ → Type 0
  IsChainBelow top [] = Unit {0}
  IsChainBelow top (view ∷ views) = Uses top view × IsChainBelow view views

  -- the rank is the length of the longest chain below
  pub record HasRank (view rank : ℕ) : Type 0 where
    pub chain : List ℕ
    pub below : IsChainBelow view chain
    pub length_is : length chain ≡ rank
    pub longest : (other : List ℕ) → IsChainBelow view other → length other ≤ rank

  -- by rank, and then by number
  pub record ComesBefore (view other : ℕ) : Type 0 where
    pub rank : ℕ
    pub other_rank : ℕ
    pub ranked : HasRank view rank
    pub other_ranked : HasRank other other_rank
    pub in_order : (rank < other_rank) ⊎ ((rank ≡ other_rank) × (view ≤ other))

  -- each of the views once, each with a rank, by rank and then by number
  pub record IsByRank (views order : List ℕ) : Type 0 where
    pub each_once : IsPermutation views order
    pub ranked : All (λ view. (rank : ℕ) × HasRank view rank) order
    pub in_order : AllPairs ComesBefore order
