-- The views' relation in numbers is the relation of the program.
use Rattle.std.proofs.Common.{◌≡◌, ◌+◌, ◌-◌, ◌<◌, ◌≤◌, ◌⊎◌, inl, inr, ℕ, zero, suc, List, [], ◌∷◌, ◌++◌, length, get_or, Contains, subst, arith}
use Rattle.std.specs.List.{AllZip}
use Rattle.std.proofs.lemmas.Bool.{cases_lt}
use Rattle.std.proofs.lemmas.List.{get_or_past}
use Rattle.aql_syntax.specs.Trees.{Statement, require}
use Rattle.view_graph.specs.declared.search.Mark.{Mark}
use Rattle.view_graph.specs.Names.{Named, view_named, names_used_by}
use Rattle.view_graph.specs.Graphs.{IsClosed, IsCycle, IsChainBelow, HasRank, IsByRank}
use Rattle.view_graph.specs.Uses.{Uses}
use Rattle.view_graph.specs.Search.{Edge, IsGraph, IsDone}
use Rattle.view_graph.specs.Lookups.{IsUseGraph}
use Rattle.view_graph.proofs.Defining.{creates_within}

module _ (R S : ℕ → ℕ → Type 0) (to : (a b : ℕ) → R a b → S a b) where
  chain_along : (top : ℕ) (views : List ℕ) → IsChainBelow R top views → IsChainBelow S top views
  chain_along top [] h = tt
  chain_along top (v ∷ vs) h = (to top v h.0, chain_along v vs h.1)

  pub closed_along : (views : List ℕ) → IsClosed R views → IsClosed S views
  closed_along views h = record {
    some = h.some;
    each_uses_next = λ k d below. to (get_or views k d) (get_or views (k + 1) d) (h.each_uses_next k d below);
    last_uses_first = to (get_or views (length views - 1) 0) (get_or views 0 0) h.last_uses_first;
  }

  pub cycle_along : (views : List ℕ) → IsCycle R views → IsCycle S views
  cycle_along views h = record { closed = closed_along views h.closed; distinct = h.distinct; begun_at_least = h.begun_at_least }

  module _ (from : (a b : ℕ) → S a b → R a b) where
    chain_back : (top : ℕ) (views : List ℕ) → IsChainBelow S top views → IsChainBelow R top views
    chain_back top [] h = tt
    chain_back top (v ∷ vs) h = (from top v h.0, chain_back v vs h.1)

    rank_along : (view rank : ℕ) → HasRank R view rank → HasRank S view rank
    rank_along view rank h = record {
      chain = h.chain;
      below = chain_along view h.chain h.below;
      length_is = h.length_is;
      longest = λ other below. h.longest other (chain_back view other below);
    }

    pub by_rank_along : (views order : List ℕ) → IsByRank R views order → IsByRank S views order
    by_rank_along views order h = record {
      each_once = h.each_once;
      ranked = λ k d below. let r = h.ranked k d below in (r.0, rank_along (get_or order k d) r.0 r.1);
      in_order = λ i j d before within.
          let c = h.in_order i j d before within in
          record {
            rank = c.rank;
            other_rank = c.other_rank;
            ranked = rank_along (get_or order i d) c.rank c.ranked;
            other_ranked = rank_along (get_or order j d) c.other_rank c.other_ranked;
            in_order = c.in_order;
          };
    }

module _ (R : ℕ → ℕ → Type 0) where
  -- a view has one rank
  pub one_rank : (view a b : ℕ) → HasRank R view a → HasRank R view b → a ≡ b
  one_rank view a b h k =
      let up : length h.chain ≤ b = k.longest h.chain h.below in
      let down : length k.chain ≤ a = h.longest k.chain k.below in
      omega (arith, up, down, h.length_is, k.length_is)

  -- what is used has a lesser rank
  pub lesser_rank : (view used a b : ℕ) → R view used → HasRank R view a → HasRank R used b → b < a
  lesser_rank view used a b uses h k =
      let longer : length (used ∷ k.chain) ≤ a = h.longest (used ∷ k.chain) (uses, k.below) in
      omega (arith, longer, k.length_is)

  module _ (ranked : (view used : ℕ) → R view used → (rank : ℕ) × HasRank R view rank) (views : List ℕ) (circle : IsClosed R views) where
    rank_in : (k : ℕ) → k < length views → (k + 1 < length views) ⊎ (length views ≤ k + 1) → (rank : ℕ) × HasRank R (get_or views k 0) rank
    rank_in k within (inl next) = ranked (get_or views k 0) (get_or views (k + 1) 0) (circle.each_uses_next k 0 next)
    rank_in k within (inr end) =
        subst (λ (i : ℕ). (rank : ℕ) × HasRank R (get_or views i 0) rank) (omega (arith, end, within)) (ranked (get_or views (length views - 1) 0) (get_or views 0 0) circle.last_uses_first)

    falls : (k : ℕ) → k < length views → (first rank : ℕ) → HasRank R (get_or views 0 0) first → HasRank R (get_or views k 0) rank → rank + k ≤ first
    falls zero within first rank h r = let same = one_rank (get_or views 0 0) first rank h r in omega (arith, same)
    falls (suc k) within first rank h r =
        let before = rank_in k (omega (arith, within)) (inl (omega (arith, within))) in
        let edge : R (get_or views k 0) (get_or views (suc k) 0) = subst (λ (i : ℕ). R (get_or views k 0) (get_or views i 0)) (omega arith) (circle.each_uses_next k 0 (omega (arith, within))) in
        let less = lesser_rank (get_or views k 0) (get_or views (suc k) 0) before.0 rank edge before.1 r in
        let old = falls k (omega (arith, within)) first before.0 h before.1 in
        omega (arith, less, old)

    -- where each that uses one has a rank there is no circle
    pub no_circle : ⊥
    no_circle =
        let end : length views - 1 < length views = omega (arith, circle.some) in
        let first = rank_in 0 circle.some (cases_lt (0 + 1) (length views)) in
        let last = rank_in (length views - 1) end (cases_lt (length views - 1 + 1) (length views)) in
        let low = falls (length views - 1) end first.0 last.0 first.1 last.1 in
        let less = lesser_rank (get_or views (length views - 1) 0) (get_or views 0 0) last.0 first.0 circle.last_uses_first last.1 first.1 in
        omega (arith, low, less)

module _ (program : List Statement) (uses : List (List ℕ)) (graph : IsUseGraph program (length program) uses) where
  no_element : (x : ℕ) → Contains [] x → ⊥
  no_element x at = omega (arith, at.1)

  no_name : (x : Named) → Contains [] x → ⊥
  no_name x at = omega (arith, at.1)

  to_uses : (a b : ℕ) → (a < length program) ⊎ (length program ≤ a) → Edge uses a b → Uses program a b
  to_uses a b (inl within) at = let h = (graph.used a within).only b at in record { name = h.0; source = h.1; view = h.2 }
  to_uses a b (inr past) at = absurd (no_element b (subst (λ (ps : List ℕ). Contains ps b) (get_or_past uses a [] (omega (arith, past, graph.length_is))) at))

  pub edge_uses : (a b : ℕ) → Edge uses a b → Uses program a b
  edge_uses a b at = to_uses a b (cases_lt a (length program)) at

  to_edge : (a b : ℕ) → (a < length program) ⊎ (length program ≤ a) → Uses program a b → Edge uses a b
  to_edge a b (inl within) h = (graph.used a within).each b h.name h.source h.view
  to_edge a b (inr past) h = absurd (no_name (view_named h.name) (subst (λ (s : Statement). Contains (names_used_by s) (view_named h.name)) (get_or_past program a require past) h.source))

  pub uses_edge : (a b : ℕ) → Uses program a b → Edge uses a b
  uses_edge a b h = to_edge a b (cases_lt a (length program)) h

  pub is_graph : IsGraph uses
  is_graph = λ a b at. let h = edge_uses a b at in let within = creates_within program require b h.name h.view (cases_lt b (length program)) in omega (arith, within, graph.length_is)

  edge_within : (a b : ℕ) → Edge uses a b → (a < length uses) ⊎ (length uses ≤ a) → a < length uses
  edge_within a b at (inl within) = within
  edge_within a b at (inr past) = absurd (no_element b (subst (λ (ps : List ℕ). Contains ps b) (get_or_past uses a [] past) at))

  -- where all have ranks there is no circle
  pub no_circle_done : (marks : List Mark) → IsDone uses marks → (views : List ℕ) → IsClosed (Uses program) views → ⊥
  no_circle_done marks all views circle =
      no_circle (Edge uses) (λ a b at. let h = all.ranked a (edge_within a b at (cases_lt a (length uses))) in (h.0, h.2)) views
      (closed_along (Uses program) (Edge uses) uses_edge views circle)

-- one more view of the cycle, with its name
pub AllZip-push_named : {A B : Type 0} (P : A → B → Type 0) (xs : List A) (ys : List B) (x : A) (y : B) → AllZip P xs ys → P x y → AllZip P (xs ++ x ∷ []) (ys ++ y ∷ [])
AllZip-push_named P [] [] x y h is = (is, tt)
AllZip-push_named P [] (v ∷ vs) x y h is = absurd h
AllZip-push_named P (u ∷ us) [] x y h is = absurd h
AllZip-push_named P (u ∷ us) (v ∷ vs) x y h is = (h.0, AllZip-push_named P us vs x y h.1 is)
