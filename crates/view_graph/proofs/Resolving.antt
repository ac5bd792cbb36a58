-- From the walk to what `resolve` answers.
use Rattle.std.proofs.Common.{◌≡◌, ◌<◌, ℕ, zero, suc, List, length, get_or, All, AllPairs, ⊎_elim, sym, subst, arith, ◌+◌, map}
use Rattle.std.specs.List.{AllZip}
use Rattle.std.proofs.lemmas.List.{get_or_default, take_all}
use Rattle.aql_syntax.specs.Trees.{Statement}
use Rattle.view_graph.specs.declared.search.Mark.{Mark}
use Rattle.view_graph.specs.declared.fault.NameFault.{NameFault}
use Rattle.view_graph.specs.declared.fault.NameFault.TheVariants.{Cycle}
use Rattle.view_graph.specs.Names.{AllDiffer, names_defined, names_looked_up, IsDefined}
use Rattle.view_graph.specs.Graphs.{IsClosed, IsCycle, IsByRank}
use Rattle.view_graph.specs.Uses.{Uses, CreatesView, views_of}
use Rattle.view_graph.specs.Answers.{HasNames, HasOutputs, FollowsUses, IsResolved, IsNameFault}
use Rattle.view_graph.specs.Outputs.{IsOutputAgain}
use Rattle.view_graph.specs.Search.{Edge, IsDone}
use Rattle.view_graph.specs.Lookups.{IsUseGraph}
use Rattle.view_graph.specs.Orders.{IsNumbering}
use Rattle.view_graph.specs.Circles.{IsBegunAtLeast, AreViews}
use Rattle.view_graph.proofs.Following.{follows}
use Rattle.view_graph.proofs.Ranking.{numbered_by_rank}
use Rattle.view_graph.proofs.Turning.{IsCycle-turned}
use Rattle.view_graph.proofs.Relations.{one_rank, lesser_rank, cycle_along, by_rank_along, edge_uses, uses_edge, no_circle_done}

-- the views of a circle are created by statements
pub are_used : (program : List Statement) (views : List ℕ) → IsClosed (Uses program) views → AreViews program views
are_used program views circle k d below = by k below
  where
    at : (k : ℕ) → k < length views → (name : List ℕ) × CreatesView program (get_or views k 0) name → (name : List ℕ) × CreatesView program (get_or views k d) name
    at k below h = subst (λ (p : ℕ). (name : List ℕ) × CreatesView program p name) (get_or_default views k 0 d below) h

    by : (k : ℕ) → k < length views → (name : List ℕ) × CreatesView program (get_or views k d) name
    by zero below = at zero below (circle.last_uses_first.name, circle.last_uses_first.view)
    by (suc k) below =
        let h = circle.each_uses_next k 0 (omega (arith, below)) in
        at (suc k) below (h.name, subst (λ (i : ℕ). CreatesView program (get_or views i 0) h.name) (omega arith) h.view)

-- what comes after a view has no lesser rank, so the view doesn't use it
used_first : (program : List Statement) (ranked : List ℕ) → IsByRank (Uses program) (views_of program) ranked → AllPairs (λ view later. ¬ (Uses program view later)) ranked
used_first program ranked ranks = λ i j d before within uses.
    let c = ranks.in_order i j d before within in
    let less = lesser_rank (Uses program) (get_or ranked i d) (get_or ranked j d) c.rank c.other_rank uses c.ranked c.other_ranked in
    ⊎_elim (λ lower. omega (arith, less, lower)) (λ same. omega (arith, less, same.0)) c.in_order

-- names that are defined once and looked up
pub has_names : (program : List Statement) (count : ℕ) (uses : List (List ℕ)) → length program ≡ count → AllDiffer (names_defined program) → IsUseGraph program count uses → HasNames program
has_names program count uses all distinct graph = record {
  distinct = distinct;
  defined = subst (λ (statements : List Statement). All (IsDefined program) (names_looked_up statements)) (take_all count program (omega (arith, all))) graph.looked_up;
}

-- where no view uses itself through others, views by rank are the answer
pub resolved_by : (program : List Statement) (ranked : List ℕ) → HasOutputs program → ((views : List ℕ) → ¬ (IsClosed (Uses program) views)) → IsByRank (Uses program) (views_of program) ranked → (order : List ℕ) → order ≡ map (λ view. view + 1) ranked
    → IsResolved program order
resolved_by program ranked outputs no_cycle ranks order numbers = record {
  outputs = outputs;
  no_cycle = no_cycle;
  ranked = ranked;
  by_rank = ranks;
  numbers = numbers;
  one_rank = one_rank (Uses program);
  used_first = used_first program ranked ranks;
  follows = subst (λ (ns : List ℕ). FollowsUses program ns) (sym numbers) (follows program ranked outputs no_cycle ranks (used_first program ranked ranks));
}

module _ (program : List Statement) (uses : List (List ℕ)) (graph : IsUseGraph program (length program) uses) (outputs : HasOutputs program) where
  -- all views have ranks
  pub resolved : (marks : List Mark) (order : List ℕ) → IsDone uses marks → IsNumbering program marks order → IsResolved program order
  resolved marks order all numbering =
      let h = numbered_by_rank program uses marks all graph.length_is order numbering in
      let ranks = by_rank_along (Edge uses) (Uses program) (edge_uses program uses graph) (uses_edge program uses graph) (views_of program) h.0 h.1 in
      resolved_by program h.0 outputs (no_circle_done program uses graph marks all) ranks order h.2

  module _ (way cycle : List ℕ) (circle : IsClosed (Edge uses) way) (distinct : AllDiffer way) (begun : IsBegunAtLeast way cycle) where
    turned : IsCycle (Uses program) cycle
    turned = cycle_along (Edge uses) (Uses program) (edge_uses program uses graph) cycle (IsCycle-turned (Edge uses) way cycle circle distinct begun)

    pub are_views : AreViews program cycle
    are_views = are_used program cycle turned.closed

    -- a circle is the fault
    pub cycle_fault : (views : List (List ℕ)) → AllZip (CreatesView program) cycle views → IsNameFault program (Cycle views)
    cycle_fault views named = (outputs, record { indexes = cycle; cycle = turned; named = named })

-- an output's name that stands twice is the fault
pub output_fault : (program : List Statement) → HasNames program → (fault : NameFault) → IsOutputAgain program fault → IsNameFault program fault
output_fault program names fault again = subst (λ (f : NameFault). IsNameFault program f) (sym again.is) (names, again.again)
