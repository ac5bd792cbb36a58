-- What one who goes through the order may rely on.
use Rattle.std.proofs.Common.{◌≡◌, ◌∙◌, ◌+◌, ◌-◌, ◌<◌, ◌≤◌, ◌⊎◌, inl, inr, ⊎_elim, ℕ, List, [], ◌∷◌, map, length, get_or, Contains, All, AllPairs, sym, subst, arith, codes}
use Rattle.std.proofs.lemmas.Bool.{cases_order, cases_lt}
use Rattle.std.proofs.lemmas.List.{length-map, get_or-map, get_or_default, get_or_past}
use Rattle.std.proofs.lemmas.List.Elements.{All-map, All-weaker, All-contains}
use Rattle.std.proofs.lemmas.List.Sorted.{All-permutation, Contains-permutation}
use Rattle.aql_syntax.specs.Trees.{Statement, module_, require, export, dictionary, create, output}
use Rattle.view_graph.specs.Names.{Named, view_named, looked_up_by, names_used_by, names_looked_up, IsDefined}
use Rattle.view_graph.specs.Graphs.{IsClosed, IsByRank}
use Rattle.view_graph.specs.Uses.{Uses, CreatesView, IsView, statement_at, statement_numbered, views_of}
use Rattle.view_graph.specs.Answers.{HasOutputs, StandsBefore, FollowsUses}
use Rattle.view_graph.proofs.Creating.{IsListed, listed, view_listed, view_from_name, among_all, definer, one_definer, no_document}
use Rattle.view_graph.proofs.Sorting.{first_or_rest}

-- a statement looks up what it uses
looks_up_used : (s : Statement) (named : Named) → Contains (names_used_by s) named → Contains (looked_up_by s) named
looks_up_used (module_ name) named at = at
looks_up_used require named at = at
looks_up_used (export name) named at = at
looks_up_used (dictionary name entries) named at = at
looks_up_used (create name query) named at = at
looks_up_used (output name alias) named at = absurd (omega (arith, at.1))

no_use : (named : Named) → ¬ (Contains [] named)
no_use named at = omega (arith, at.1)

pub user_within : (program : List Statement) (p : ℕ) (named : Named) → Contains (names_used_by (statement_at program p)) named → (p < length program) ⊎ (length program ≤ p) → p < length program
user_within program p named at (inl below) = below
user_within program p named at (inr past) = absurd (no_use named (subst (λ (s : Statement). Contains (names_used_by s) named) (get_or_past program p require past) at))

same_view : (a b : List ℕ) → view_named a ≡ view_named b → a ≡ b
same_view a b e = cc

-- one that uses itself is a cycle
self_cycle : (R : ℕ → ℕ → Type 0) (p : ℕ) → R p p → IsClosed R (p ∷ [])
self_cycle R p uses = record { some = omega arith; each_uses_next = λ k d below. absurd (omega (arith, below)); last_uses_first = uses }

module _ (program : List Statement) (ranked : List ℕ) (outputs : HasOutputs program) (no_cycle : (views : List ℕ) → ¬ (IsClosed (Uses program) views))
    (ranks : IsByRank (Uses program) (views_of program) ranked) (used_first : AllPairs (λ view later. ¬ (Uses program view later)) ranked) where
  abbrev order : List ℕ
  order = map (λ view. view + 1) ranked

  are_views : All (λ p. (p < length program) × IsView (statement_at program p)) ranked
  unfolding IsListed
  are_views = All-permutation (λ p. (p < length program) × IsView (statement_at program p)) (views_of program) ranked ranks.each_once
      (All-weaker (IsListed 0 program) (λ p. (p < length program) × IsView (statement_at program p))
      (λ p h. let same : h.0 ≡ p = omega (arith, h.1) in (omega (arith, h.1, h.2), subst (λ (k : ℕ). IsView (statement_at program k)) same h.3)) (views_of program) (listed program 0))

  pub view_in : (q : ℕ) (name : List ℕ) → q < length program → CreatesView program q name → Contains ranked q
  view_in q name within creates =
      let same : 0 + q ≡ q = omega arith in
      Contains-permutation (views_of program) ranked q ranks.each_once
      (subst (λ (k : ℕ). Contains (views_of program) k) same (view_listed program 0 q within (view_from_name (statement_at program q) name creates)))

  number_at : (k : ℕ) → k < length ranked → get_or order k 0 - 1 ≡ get_or ranked k 0
  number_at k below = let h : get_or order k 0 ≡ get_or ranked k 0 + 1 = get_or-map (λ view. view + 1) ranked k 0 0 below in omega (arith, h)

  earlier : (index : ℕ) (name : List ℕ) → index < length ranked → Uses program (get_or ranked index 0) (get_or ranked index 0) ⊎ ((q : ℕ) × (q < length program) × CreatesView program q name × Uses program (get_or ranked index 0) q)
      → StandsBefore program order index name
  earlier index name within (inl itself) = absurd (no_cycle (get_or ranked index 0 ∷ []) (self_cycle (Uses program) (get_or ranked index 0) itself))
  earlier index name within (inr h) = by (view_in h.0 name h.1 h.2) (λ at. at)
    where
      stands : (at : Contains ranked h.0) → at.0 < index → StandsBefore program order index name
      stands at less = record {
        earlier = at.0;
        before = less;
        creates = subst (λ (p : ℕ). CreatesView program p name) (sym (number_at at.0 at.1 ∙ get_or_default ranked at.0 0 h.0 at.1 ∙ at.2)) h.2;
      }

      using : (at : Contains ranked h.0) → Uses program (get_or ranked index 0) (get_or ranked at.0 0)
      using at = subst (λ (q : ℕ). Uses program (get_or ranked index 0) q) (sym (get_or_default ranked at.0 0 h.0 at.1 ∙ at.2)) h.3

      by : Contains ranked h.0 → (Contains ranked h.0 → Contains ranked h.0) → StandsBefore program order index name
      by at same = ⊎_elim
          (λ here. absurd (no_cycle (get_or ranked index 0 ∷ []) (self_cycle (Uses program) (get_or ranked index 0) (subst (λ (k : ℕ). Uses program (get_or ranked index 0) (get_or ranked k 0)) here (using at)))))
          (⊎_elim (stands at) (λ later. absurd (used_first index at.0 0 later at.1 (using at))))
          (cases_order at.0 index)

  used : (index : ℕ) (name : List ℕ) → index < length order → Contains (names_used_by (statement_numbered program (get_or order index 0))) (view_named name) → (name ≡ codes "Document") ⊎ StandsBefore program order index name
  used index name below at =
      let within : index < length ranked = omega (arith, below, length-map ranked (λ view. view + 1)) in
      let p = get_or ranked index 0 in
      let source : Contains (names_used_by (statement_at program p)) (view_named name) = subst (λ (k : ℕ). Contains (names_used_by (statement_at program k)) (view_named name)) (number_at index within) at in
      let defined : IsDefined program (view_named name) =
      All-contains (IsDefined program) (names_looked_up program) (view_named name) outputs.names.defined
      (among_all looked_up_by program p require (view_named name) (user_within program p (view_named name) source (cases_lt p (length program))) (looks_up_used (statement_at program p) (view_named name) source)) in
      ⊎_elim
      (λ document. inl (sym (same_view (codes "Document") name document)))
      (λ later. let h = definer program (view_named name) later in inr (earlier index name within (inr (h.0, h.1, h.2, record { name = name; source = source; view = h.2 }))))
      (first_or_rest (view_named (codes "Document")) (view_named name) _ defined)

  pub follows : FollowsUses program order
  follows = record {
    in_program = All-map (λ number. (0 < number) × (number ≤ length program)) (λ view. view + 1) ranked (All-weaker (λ p. (p < length program) × IsView (statement_at program p)) (λ p. (0 < p + 1) × (p + 1 ≤ length program)) (λ p h. (omega arith, omega (arith, h.0))) ranked are_views);
    views = All-map (λ number. IsView (statement_numbered program number)) (λ view. view + 1) ranked
        (All-weaker (λ p. (p < length program) × IsView (statement_at program p)) (λ p. IsView (statement_numbered program (p + 1))) (λ p h. let same : p ≡ p + 1 - 1 = omega arith in subst (λ (k : ℕ). IsView (statement_at program k)) same h.1) ranked are_views);
    one_view = λ p q name one other. one_definer program outputs.names.distinct p q (view_named name) one other;
    no_document = no_document program outputs.names.distinct;
    used_before = used;
  }
