-- What is found of a name, and where a view stands in the order.
use Rattle.std.proofs.Common.{◌≡◌, ◌∙◌, ◌+◌, ◌-◌, ◌<◌, ◌≤◌, ◌⊎◌, inl, inr, ⊎_elim, ℕ, List, map, set, length, get_or, Option, Some, None, IsSome, All, refl, ap, sym, subst, arith, codes}
use Rattle.std.proofs.lemmas.Bool.{cases_lt, cases_order}
use Rattle.std.proofs.lemmas.List.{length-map, length-set, get_or-map, get_or_default, get_or-set_same, get_or-set_other}
use Rattle.std.proofs.lemmas.List.Elements.{All-weaker}
use Rattle.aql_syntax.specs.Trees.{Statement}
use Rattle.view_graph.specs.Names.{view_named, dictionary_named, AllDiffer}
use Rattle.view_graph.specs.Uses.{CreatesView, views_of}
use Rattle.view_graph.specs.Answers.{IsResolved}
use Rattle.view_graph.specs.Found.{StandsAt}
use Rattle.view_graph.specs.Kept.{IsIndexed, KeepsGraph}
use Rattle.view_graph.proofs.Once.{differ_permutation, at_most}
use Rattle.view_graph.proofs.Sorting.{first_or_rest}
use Rattle.view_graph.proofs.Creating.{views_differ, definer, defined_within}
use Rattle.view_graph.proofs.Following.{view_in}

-- the numbers of an order are distinct
pub order_differs : (program : List Statement) (order : List ℕ) → IsResolved program order → AllDiffer order
order_differs program order r = subst (λ (ns : List ℕ). AllDiffer ns) (sym r.numbers) (λ i j d less within same.
    let below : j < length r.ranked = omega (arith, within, length-map r.ranked (λ view. view + 1)) in
    let one : get_or (map (λ view. view + 1) r.ranked) i d ≡ get_or r.ranked i 0 + 1 = get_or-map (λ view. view + 1) r.ranked i 0 d (omega (arith, less, below)) in
    let other : get_or (map (λ view. view + 1) r.ranked) j d ≡ get_or r.ranked j 0 + 1 = get_or-map (λ view. view + 1) r.ranked j 0 d below in
    differ_permutation (views_of program) r.ranked r.by_rank.each_once (views_differ program) i j 0 less below (omega (arith, one, other, same)))

-- no more numbers than statements
pub order_short : (order : List ℕ) (count : ℕ) → All (λ number. (0 < number) × (number ≤ count)) order → AllDiffer order → length order ≤ count + 1
order_short order count within distinct = at_most (count + 1) order (All-weaker (λ number. (0 < number) × (number ≤ count)) (λ number. number < count + 1) (λ number h. omega (arith, h.1)) order within) distinct

-- one more index
pub indexed_more : (order indexes new : List ℕ) (count i : ℕ) → All (λ number. (0 < number) × (number ≤ count)) order → AllDiffer order → i < length order → length indexes ≡ count
    → ((k : ℕ) → k < i → get_or indexes (get_or order k 0 - 1) 0 ≡ k) → new ≡ set indexes (get_or order i 0 - 1) i
    → (length new ≡ count) × ((k : ℕ) → k < i + 1 → get_or new (get_or order k 0 - 1) 0 ≡ k)
indexed_more order indexes new count i range distinct within long before is = (ap length is ∙ length-set indexes (get_or order i 0 - 1) i ∙ long, λ k below. by k below (cases_order k i))
  where
    in_range : (k : ℕ) → k < length order → (0 < get_or order k 0) × (get_or order k 0 ≤ count)
    in_range k below = range k 0 below

    other : (k : ℕ) → k < i → get_or order k 0 - 1 ≡ get_or order i 0 - 1 → ⊥
    other k less same = distinct k i 0 less within (omega (arith, same, in_range k (omega (arith, less, within)), in_range i within))

    at : (k : ℕ) → get_or (set indexes (get_or order i 0 - 1) i) (get_or order k 0 - 1) 0 ≡ k → get_or new (get_or order k 0 - 1) 0 ≡ k
    at k h = ap (λ (xs : List ℕ). get_or xs (get_or order k 0 - 1) 0) is ∙ h

    here : get_or (set indexes (get_or order i 0 - 1) i) (get_or order i 0 - 1) 0 ≡ i
    here = get_or-set_same indexes (get_or order i 0 - 1) i 0 (let r = in_range i within in omega (arith, r.0, r.1, long))

    by : (k : ℕ) → k < i + 1 → (k ≡ i) ⊎ ((k < i) ⊎ (i < k)) → get_or new (get_or order k 0 - 1) 0 ≡ k
    by k below (inl same) = at k (subst (λ (j : ℕ). get_or (set indexes (get_or order i 0 - 1) i) (get_or order j 0 - 1) 0 ≡ j) (sym same) here)
    by k below (inr (inl less)) = at k (get_or-set_other indexes (get_or order i 0 - 1) (get_or order k 0 - 1) i 0 (other k less) ∙ before k less)
    by k below (inr (inr past)) = absurd (omega (arith, below, past))

-- all are indexed
pub indexed_all : (order indexes : List ℕ) (count i : ℕ) → All (λ number. (0 < number) × (number ≤ count)) order → length order ≤ i → length indexes ≡ count
    → ((k : ℕ) → k < i → get_or indexes (get_or order k 0 - 1) 0 ≡ k) → IsIndexed order indexes
indexed_all order indexes count i range end long all = λ k below. (let r = range k 0 below in omega (arith, r.0, r.1, long), all k (omega (arith, below, end)))

same_view : (a b : List ℕ) → view_named a ≡ view_named b → a ≡ b
same_view a b e = cc

nothing : (view : ℕ) → ◌≡◌ {A = Option (Option ℕ)} (Some None) (Some (Some view)) → ⊥
nothing view e = cc

module _ (program : List Statement) (order : List ℕ) (views : List ℕ → Option (Option ℕ)) (dictionaries : List ℕ → Option ℕ) (indexes : List ℕ)
    (kept : KeepsGraph program order views dictionaries indexes) where
  -- a view of the map is that of a statement
  pub view_within : (view : ℕ) (name : List ℕ) → views name ≡ Some (Some view) → view < length program
  view_within view name e = defined_within program kept.names.distinct view (view_named name) (kept.names.views.only view name e) (cases_lt view (length program))

  pub dictionary_within : (index : ℕ) (name : List ℕ) → dictionaries name ≡ Some index → index < length program
  dictionary_within index name e = defined_within program kept.names.distinct index (dictionary_named name) (kept.names.dictionaries.only index name e) (cases_lt index (length program))

  in_order : (view : ℕ) (name : List ℕ) → views name ≡ Some (Some view) → (index : ℕ) × (index < length order) × (get_or order index 0 ≡ view + 1)
  in_order view name e =
      let at = view_in program kept.resolved.ranked kept.resolved.outputs kept.resolved.no_cycle kept.resolved.by_rank kept.resolved.used_first view name (view_within view name e) (kept.names.views.only view name e) in
      let long : length order ≡ length kept.resolved.ranked = ap length kept.resolved.numbers ∙ length-map kept.resolved.ranked (λ view. view + 1) in (
        at.0,
        omega (arith, long, at.1),
        ap (λ (ns : List ℕ). get_or ns at.0 0) kept.resolved.numbers ∙ get_or-map (λ view. view + 1) kept.resolved.ranked at.0 0 0 at.1
            ∙ ap (λ (p : ℕ). p + 1) (get_or_default kept.resolved.ranked at.0 0 view at.1 ∙ at.2),
      )

  pub index_within : (view : ℕ) (name : List ℕ) → views name ≡ Some (Some view) → view < length indexes
  index_within view name e = let at = in_order view name e in let h = kept.indexed at.0 at.1 in omega (arith, at.2, h.0)

  -- where the view stands
  pub stands : (view : ℕ) (name : List ℕ) → views name ≡ Some (Some view) → (index : ℕ) → index ≡ get_or indexes view 0 → StandsAt program order name (view + 1) index
  stands view name e index is =
      let at = in_order view name e in
      let h = kept.indexed at.0 at.1 in
      let back : get_or order at.0 0 - 1 ≡ view = omega (arith, at.2) in
      let same : at.0 ≡ index = sym h.1 ∙ ap (λ (p : ℕ). get_or indexes p 0) back ∙ sym is in
      let before : view ≡ view + 1 - 1 = omega arith in
      record {
        creates = subst (λ (p : ℕ). CreatesView program p name) before (kept.names.views.only view name e);
        within = omega (arith, same, at.1);
        number_is = subst (λ (k : ℕ). get_or order k 0 ≡ view + 1) same at.2;
      }

  -- the one name that has no statement
  pub is_document : (name : List ℕ) → views name ≡ Some None → name ≡ codes "Document"
  is_document name e =
      ⊎_elim
      (λ document. sym (same_view (codes "Document") name document))
      (λ later. let h = definer program (view_named name) later in absurd (nothing h.0 (sym e ∙ kept.names.views.there h.0 name h.2)))
      (first_or_rest (view_named (codes "Document")) (view_named name) _ (kept.names.views.known name (subst (λ (o : Option (Option ℕ)). IsSome o) (sym e) refl)))
