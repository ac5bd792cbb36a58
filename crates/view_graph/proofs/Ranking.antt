-- Views that have ranks and are sorted are by rank and then by number.
use Rattle.std.proofs.Common.{◌≡◌, ◌∙◌, ◌+◌, ◌<◌, ◌≤◌, ◌⊎◌, inl, inr, ℕ, suc, false, List, [], ◌∷◌, ◌++◌, map, length, get_or, All, refl, ap, sym, subst, arith, add-one, append_assoc, true≢false}
use Rattle.std.specs.Ordering.{ordering_then, nat_cmp, is_lt}
use Rattle.std.specs.declared.cmp.Ordering.{Ordering}
use Rattle.std.specs.declared.cmp.Ordering.TheVariants.{Less, Equal}
use Rattle.std.specs.Cmp.{IsStrictWeakOrder}
use Rattle.std.proofs.lemmas.Cmp.{nat_cmp_total, on_total, then_total}
use Rattle.std.proofs.lemmas.Bool.{cases_lt, cases_order}
use Rattle.std.proofs.lemmas.Bool.Decides.{nat_tests}
use Rattle.std.proofs.lemmas.List.{length-map}
use Rattle.std.proofs.lemmas.List.Elements.{All-cons, All-weaker, All-map}
use Rattle.std.proofs.lemmas.List.Sorted.{ranks_by, sorted_far, All-permutation, IsPermutation-map}
use Rattle.std.specs.List.Sorted.{IsPermutation}
use Rattle.aql_syntax.specs.Trees.{Statement, module_, require, export, dictionary, create, output}
use Rattle.aql_syntax.specs.declared.tree.Statement as declared
use Rattle.aql_syntax.specs.declared.tree.Statement.TheVariants as variant
use Rattle.aql_syntax.specs.declared.tree.Ident.{Ident}
use Rattle.aql_syntax.specs.declared.tree.Query as declared_query
use Rattle.aql_syntax.specs.Views.{statement_of}
use Rattle.view_graph.specs.declared.search.Mark.{Mark}
use Rattle.view_graph.specs.Graphs.{HasRank, ComesBefore, IsByRank}
use Rattle.view_graph.specs.Uses.{views_from, views_of}
use Rattle.view_graph.specs.Search.{Edge, IsDone}
use Rattle.view_graph.specs.Orders.{by_rank, HaveRanks, IsNumbering}
use Rattle.view_graph.proofs.Splits.{get_or-map_within}

-- one more statement that creates a view
pub step_view : (before all : List ℕ) (index : ℕ) (s : declared.Statement) (name : Ident) (query : declared_query.Query) (rest : List Statement) → s ≡ variant.View name query
    → before ++ views_from index (statement_of s ∷ rest) ≡ all → (before ++ index ∷ []) ++ views_from (index + 1) rest ≡ all
step_view before all index s name query rest is h =
    append_assoc before (index ∷ []) (views_from (index + 1) rest)
    ∙ (ap (λ (n : ℕ). before ++ (index ∷ views_from n rest)) (add-one index)
    ∙ (sym (ap (λ (s : declared.Statement). before ++ views_from index (statement_of s ∷ rest)) is) ∙ h))

-- one more that creates none
pub step_other : (before all : List ℕ) (index : ℕ) (s : declared.Statement) (rest : List Statement) → ((name : Ident) (query : declared_query.Query) → s ≡ variant.View name query → ⊥)
    → before ++ views_from index (statement_of s ∷ rest) ≡ all → before ++ views_from (index + 1) rest ≡ all
step_other before all index (variant.Module name) rest none h = ap (λ (n : ℕ). before ++ views_from n rest) (add-one index) ∙ h
step_other before all index variant.Require rest none h = ap (λ (n : ℕ). before ++ views_from n rest) (add-one index) ∙ h
step_other before all index (variant.Export name) rest none h = ap (λ (n : ℕ). before ++ views_from n rest) (add-one index) ∙ h
step_other before all index (variant.Dictionary name entries) rest none h = ap (λ (n : ℕ). before ++ views_from n rest) (add-one index) ∙ h
step_other before all index (variant.View name query) rest none h = absurd (none name query refl)
step_other before all index (variant.Output name alias) rest none h = ap (λ (n : ℕ). before ++ views_from n rest) (add-one index) ∙ h

skipped : (index : ℕ) (ss : List Statement) (xs : List ℕ) → All (λ p. p < suc index + length ss) xs → All (λ p. p < index + suc (length ss)) xs
skipped index ss xs h = All-weaker (λ p. p < suc index + length ss) (λ p. p < index + suc (length ss)) (λ p below. omega (arith, below)) xs h

-- a view's index is that of a statement
views_within : (index : ℕ) (ss : List Statement) → All (λ p. p < index + length ss) (views_from index ss)
views_within index [] = λ k d below. absurd (omega (arith, below))
views_within index (module_ name ∷ ss) = skipped index ss (views_from (suc index) ss) (views_within (suc index) ss)
views_within index (require ∷ ss) = skipped index ss (views_from (suc index) ss) (views_within (suc index) ss)
views_within index (export name ∷ ss) = skipped index ss (views_from (suc index) ss) (views_within (suc index) ss)
views_within index (dictionary name entries ∷ ss) = skipped index ss (views_from (suc index) ss) (views_within (suc index) ss)
views_within index (create name query ∷ ss) =
    All-cons (λ p. p < index + suc (length ss)) index (views_from (suc index) ss) (omega arith) (skipped index ss (views_from (suc index) ss) (views_within (suc index) ss))
views_within index (output name alias ∷ ss) = skipped index ss (views_from (suc index) ss) (views_within (suc index) ss)

cmp-equal : (m n : ℕ) → m ≡ n → nat_cmp m n ≡ Equal
cmp-equal m n e = grind (arith, nat_tests)

cmp-less : (m n : ℕ) → m < n → nat_cmp m n ≡ Less
cmp-less m n h = grind (arith, nat_tests)

-- what a pair that isn't less says
pair_order : (a b : ℕ × ℕ) → is_lt (by_rank b a) ≡ false → (a.0 < b.0) ⊎ ((a.0 ≡ b.0) × (a.1 ≤ b.1))
pair_order a b h = by (cases_order a.0 b.0) (cases_lt b.1 a.1)
  where
    by : (a.0 ≡ b.0) ⊎ ((a.0 < b.0) ⊎ (b.0 < a.0)) → (b.1 < a.1) ⊎ (a.1 ≤ b.1) → (a.0 < b.0) ⊎ ((a.0 ≡ b.0) × (a.1 ≤ b.1))
    by (inl same) (inl less) = absurd (true≢false (sym (ap (λ (o : Ordering). is_lt (ordering_then o (nat_cmp b.1 a.1))) (cmp-equal b.0 a.0 (sym same)) ∙ ap is_lt (cmp-less b.1 a.1 less)) ∙ h))
    by (inl same) (inr more) = inr (same, more)
    by (inr (inl less)) second = inl less
    by (inr (inr more)) second = absurd (true≢false (sym (ap (λ (o : Ordering). is_lt (ordering_then o (nat_cmp b.1 a.1))) (cmp-less b.0 a.0 more)) ∙ h))

weak : IsStrictWeakOrder (λ (x y : ℕ × ℕ). is_lt (by_rank x y))
weak = ranks_by (then_total (on_total (λ (p : ℕ × ℕ). p.0) nat_cmp_total) (on_total (λ (p : ℕ × ℕ). p.1) nat_cmp_total)) (λ (p : ℕ × ℕ). p)

map_numbers : (views : List (ℕ × ℕ)) → map (λ view. view.1 + 1) views ≡ map (λ index. index + 1) (map (λ (view : ℕ × ℕ). view.1) views)
map_numbers [] = refl
map_numbers (v ∷ vs) = ap (λ (rest : List ℕ). (v.1 + 1) ∷ rest) (map_numbers vs)

-- a view with a rank is a statement of the program
pub ranked_within : (program : List Statement) (marks : List Mark) (with_ranks : List (ℕ × ℕ)) → HaveRanks program marks with_ranks → All (λ view. view.1 < length program) with_ranks
ranked_within program marks with_ranks are = λ k d below.
    let at : get_or (map (λ (v : ℕ × ℕ). v.1) with_ranks) k 0 ≡ (get_or with_ranks k d).1 = get_or-map_within (λ (v : ℕ × ℕ). v.1) with_ranks k d 0 below in
    let inside : get_or (map (λ (v : ℕ × ℕ). v.1) with_ranks) k 0 < 0 + length program =
    subst (λ (ps : List ℕ). All (λ p. p < 0 + length program) ps) (sym are.indexes) (views_within 0 program) k 0 (omega (arith, below, length-map with_ranks (λ (v : ℕ × ℕ). v.1))) in
    omega (arith, at, inside)

module _ (program : List Statement) (uses : List (List ℕ)) (marks : List Mark) (all : IsDone uses marks) (same_length : length uses ≡ length program) where
  ranks_are : (with_ranks : List (ℕ × ℕ)) → HaveRanks program marks with_ranks → All (λ view. HasRank (Edge uses) view.1 view.0) with_ranks
  ranks_are with_ranks are = λ k d below.
      let found = all.ranked (get_or with_ranks k d).1 (omega (arith, ranked_within program marks with_ranks are k d below, same_length)) in
      subst (λ (r : ℕ). HasRank (Edge uses) (get_or with_ranks k d).1 r) (sym (are.ranks k d below found.0 found.1)) found.2

  -- the numbers are those of the views by rank
  pub numbered_by_rank : (order : List ℕ) → IsNumbering program marks order → (indexes : List ℕ) × IsByRank (Edge uses) (views_of program) indexes × (order ≡ map (λ index. index + 1) indexes)
  numbered_by_rank order numbering = (
    map (λ (v : ℕ × ℕ). v.1) numbering.sorted,
    record {
      each_once = subst (λ (ps : List ℕ). IsPermutation ps (map (λ (v : ℕ × ℕ). v.1) numbering.sorted)) numbering.are_ranked.indexes (IsPermutation-map (λ (v : ℕ × ℕ). v.1) numbering.with_ranks numbering.sorted numbering.permuted);
      ranked = All-map (λ view. (rank : ℕ) × HasRank (Edge uses) view rank) (λ (v : ℕ × ℕ). v.1) numbering.sorted (λ k d below. ((get_or numbering.sorted k d).0, ranked k d below));
      in_order = λ i j d before within.
          let short : j < length numbering.sorted = omega (arith, within, length-map numbering.sorted (λ (v : ℕ × ℕ). v.1)) in
          let a = get_or numbering.sorted i (0, 0) in
          let b = get_or numbering.sorted j (0, 0) in
          let a_is : get_or (map (λ (v : ℕ × ℕ). v.1) numbering.sorted) i d ≡ a.1 = get_or-map_within (λ (v : ℕ × ℕ). v.1) numbering.sorted i (0, 0) d (omega (arith, before, short)) in
          let b_is : get_or (map (λ (v : ℕ × ℕ). v.1) numbering.sorted) j d ≡ b.1 = get_or-map_within (λ (v : ℕ × ℕ). v.1) numbering.sorted j (0, 0) d short in
          subst (λ (x : ℕ). ComesBefore (Edge uses) x (get_or (map (λ (v : ℕ × ℕ). v.1) numbering.sorted) j d)) (sym a_is)
          (subst (λ (y : ℕ). ComesBefore (Edge uses) a.1 y) (sym b_is) (record {
            rank = a.0;
            other_rank = b.0;
            ranked = ranked i (0, 0) (omega (arith, before, short));
            other_ranked = ranked j (0, 0) short;
            in_order = pair_order a b (sorted_far (λ x y. is_lt (by_rank x y)) weak numbering.sorted numbering.in_order i j (0, 0) (omega (arith, before)) short);
          }));
    },
    numbering.numbers ∙ map_numbers numbering.sorted,
  )
    where
      ranked : All (λ view. HasRank (Edge uses) view.1 view.0) numbering.sorted
      ranked = All-permutation (λ view. HasRank (Edge uses) view.1 view.0) numbering.with_ranks numbering.sorted numbering.permuted (ranks_are numbering.with_ranks numbering.are_ranked)
