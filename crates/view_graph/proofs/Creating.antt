-- The views of a program, and the names that statements define.
use Rattle.std.proofs.Common.{◌≡◌, ◌∙◌, ◌+◌, ◌<◌, ◌≤◌, ◌⊎◌, inl, inr, ⊎_elim, ℕ, zero, suc, None, Some, List, [], ◌∷◌, ◌++◌, flat_map, take, drop, length, get_or, Contains, All, AllPairs, refl, ap, sym, subst, arith, codes}
use Rattle.std.proofs.lemmas.Bool.{cases_order, cases_lt}
use Rattle.std.proofs.lemmas.List.{take-append-drop, drop_more, get_or-take, length-take-le, get_or_past}
use Rattle.std.proofs.lemmas.List.Elements.{All-cons, All-weaker, Contains-append_left, Contains-append_right, Contains-append_cases}
use Rattle.std.proofs.lemmas.List.Kept.{AllPairs-cons}
use Rattle.aql_syntax.specs.Trees.{Statement, module_, require, export, dictionary, create, output}
use Rattle.view_graph.specs.Names.{Named, view_named, dictionary_named, defined_by, output_of, names_defined, AllDiffer}
use Rattle.view_graph.specs.Uses.{CreatesView, IsView, statement_at, views_from, views_of}
use Rattle.view_graph.proofs.Once.{in_one, twice, given_at}

-- a statement defines one name or none
pub few_defined : (s : Statement) → (defined_by s ≡ []) ⊎ ((named : Named) × (defined_by s ≡ named ∷ []))
few_defined (module_ name) = inl refl
few_defined require = inl refl
few_defined (export name) = inl refl
few_defined (dictionary name entries) = inr (dictionary_named name.text, refl)
few_defined (create name query) = inr (view_named name.text, refl)
few_defined (output name alias) = inl refl

pub few_outputs : (s : Statement) → (output_of s ≡ []) ⊎ ((name : List ℕ) × (output_of s ≡ name ∷ []))
few_outputs (module_ name) = inl refl
few_outputs require = inl refl
few_outputs (export name) = inl refl
few_outputs (dictionary name entries) = inl refl
few_outputs (create name query) = inl refl
few_outputs (output name None) = inr (name.text, refl)
few_outputs (output name (Some alias)) = inr (alias, refl)

-- a statement that creates a view, and what the list of views has of it
view_or_not : (s : Statement) (index : ℕ) (ss : List Statement) → (IsView s × (views_from index (s ∷ ss) ≡ index ∷ views_from (suc index) ss)) ⊎ ((IsView s → ⊥) × (views_from index (s ∷ ss) ≡ views_from (suc index) ss))
view_or_not (module_ name) index ss = inr ((λ h. h), refl)
view_or_not require index ss = inr ((λ h. h), refl)
view_or_not (export name) index ss = inr ((λ h. h), refl)
view_or_not (dictionary name entries) index ss = inr ((λ h. h), refl)
view_or_not (create name query) index ss = inl (tt, refl)
view_or_not (output name alias) index ss = inr ((λ h. h), refl)

no_named : (x : Named) → ◌≡◌ {A = List Named} [] (x ∷ []) → ⊥
no_named x e = cc

apart : (a b : List ℕ) → ◌≡◌ {A = List Named} (dictionary_named a ∷ []) (view_named b ∷ []) → ⊥
apart a b e = cc

pub view_from_name : (s : Statement) (name : List ℕ) → defined_by s ≡ view_named name ∷ [] → IsView s
view_from_name (module_ other) name e = no_named (view_named name) e
view_from_name require name e = no_named (view_named name) e
view_from_name (export other) name e = no_named (view_named name) e
view_from_name (dictionary other entries) name e = apart other.text name e
view_from_name (create other query) name e = tt
view_from_name (output other alias) name e = no_named (view_named name) e

-- an index of the list is that of a view
unfoldable pub IsListed : ℕ → List Statement → ℕ → Type 0
IsListed index ss p = (k : ℕ) × (p ≡ index + k) × (k < length ss) × IsView (get_or ss k require)

pub listed : (ss : List Statement) (index : ℕ) → All (IsListed index ss) (views_from index ss)
unfolding IsListed
listed [] index = λ k d below. absurd (omega (arith, below))
listed (s ∷ ss) index = by (view_or_not s index ss) (All-weaker (IsListed (suc index) ss) (IsListed index (s ∷ ss)) (λ p h. (suc h.0, omega (arith, h.1), omega (arith, h.2), h.3)) (views_from (suc index) ss) (listed ss (suc index)))
  where
    by : (IsView s × (views_from index (s ∷ ss) ≡ index ∷ views_from (suc index) ss)) ⊎ ((IsView s → ⊥) × (views_from index (s ∷ ss) ≡ views_from (suc index) ss))
        → All (IsListed index (s ∷ ss)) (views_from (suc index) ss) → All (IsListed index (s ∷ ss)) (views_from index (s ∷ ss))
    by (inl h) rest = subst (λ (ps : List ℕ). All (IsListed index (s ∷ ss)) ps) (sym h.1) (All-cons (IsListed index (s ∷ ss)) index (views_from (suc index) ss) (0, omega arith, omega arith, h.0) rest)
    by (inr h) rest = subst (λ (ps : List ℕ). All (IsListed index (s ∷ ss)) ps) (sym h.1) rest

rising : (ss : List Statement) (index : ℕ) → AllPairs (λ p q. p < q) (views_from index ss)
unfolding IsListed
rising [] index = λ i j d less within. absurd (omega (arith, within))
rising (s ∷ ss) index = by (view_or_not s index ss) (rising ss (suc index))
  where
    by : (IsView s × (views_from index (s ∷ ss) ≡ index ∷ views_from (suc index) ss)) ⊎ ((IsView s → ⊥) × (views_from index (s ∷ ss) ≡ views_from (suc index) ss))
        → AllPairs (λ p q. p < q) (views_from (suc index) ss) → AllPairs (λ p q. p < q) (views_from index (s ∷ ss))
    by (inl h) rest = subst (λ (ps : List ℕ). AllPairs (λ p q. p < q) ps) (sym h.1)
        (AllPairs-cons (λ p q. p < q) index (views_from (suc index) ss) (All-weaker (IsListed (suc index) ss) (λ q. index < q) (λ p h. omega (arith, h.1)) (views_from (suc index) ss) (listed ss (suc index))) rest)
    by (inr h) rest = subst (λ (ps : List ℕ). AllPairs (λ p q. p < q) ps) (sym h.1) rest

-- the indexes of views are distinct
pub views_differ : (program : List Statement) → AllDiffer (views_of program)
views_differ program = λ i j d less within same. let h = rising program 0 i j d less within in omega (arith, h, same)

-- each view is in the list
pub view_listed : (ss : List Statement) (index k : ℕ) → k < length ss → IsView (get_or ss k require) → Contains (views_from index ss) (index + k)
view_listed [] index k below is = absurd (omega (arith, below))
view_listed (s ∷ ss) index zero below is = by (view_or_not s index ss)
  where
    by : (IsView s × (views_from index (s ∷ ss) ≡ index ∷ views_from (suc index) ss)) ⊎ ((IsView s → ⊥) × (views_from index (s ∷ ss) ≡ views_from (suc index) ss)) → Contains (views_from index (s ∷ ss)) (index + zero)
    by (inl h) = subst (λ (ps : List ℕ). Contains ps (index + zero)) (sym h.1) (0, omega arith, omega arith)
    by (inr h) = absurd (h.0 is)
view_listed (s ∷ ss) index (suc k) below is = by (view_or_not s index ss) (view_listed ss (suc index) k (omega (arith, below)) is)
  where
    by : (IsView s × (views_from index (s ∷ ss) ≡ index ∷ views_from (suc index) ss)) ⊎ ((IsView s → ⊥) × (views_from index (s ∷ ss) ≡ views_from (suc index) ss))
        → Contains (views_from (suc index) ss) (suc index + k) → Contains (views_from index (s ∷ ss)) (index + suc k)
    by (inl h) at =
        let same : suc index + k ≡ index + suc k = omega arith in
        subst (λ (ps : List ℕ). Contains ps (index + suc k)) (sym h.1) (Contains-append_right (index ∷ []) (views_from (suc index) ss) (index + suc k) (subst (λ (p : ℕ). Contains (views_from (suc index) ss) p) same at))
    by (inr h) at =
        let same : suc index + k ≡ index + suc k = omega arith in
        subst (λ (ps : List ℕ). Contains ps (index + suc k)) (sym h.1) (subst (λ (p : ℕ). Contains (views_from (suc index) ss) p) same at)

-- what one statement gives is among what all give
pub among_all : {S X : Type 0} (f : S → List X) (ss : List S) (k : ℕ) (d : S) (x : X) → k < length ss → Contains (f (get_or ss k d)) x → Contains (flat_map f ss) x
among_all f [] k d x below at = absurd (omega (arith, below))
among_all f (s ∷ ss) zero d x below at = Contains-append_left (f s) (flat_map f ss) x at
among_all f (s ∷ ss) (suc k) d x below at = Contains-append_right (f s) (flat_map f ss) x (among_all f ss k d x (omega (arith, below)) at)

-- a name that is defined is that of one statement
pub definer : (ss : List Statement) (named : Named) → Contains (flat_map defined_by ss) named → (k : ℕ) × (k < length ss) × (defined_by (get_or ss k require) ≡ named ∷ [])
definer [] named at = absurd (omega (arith, at.1))
definer (s ∷ ss) named at = by (few_defined s) (definer ss named) (Contains-append_cases (defined_by s) (flat_map defined_by ss) named at)
  where
    here : (other : Named) → defined_by s ≡ other ∷ [] → Contains (defined_by s) named → defined_by s ≡ named ∷ []
    here other e found = e ∙ ap (λ (n : Named). n ∷ []) (in_one other named (subst (λ (ns : List Named). Contains ns named) e found))

    by : (defined_by s ≡ []) ⊎ ((other : Named) × (defined_by s ≡ other ∷ [])) → (Contains (flat_map defined_by ss) named → (k : ℕ) × (k < length ss) × (defined_by (get_or ss k require) ≡ named ∷ []))
        → Contains (defined_by s) named ⊎ Contains (flat_map defined_by ss) named → (k : ℕ) × (k < length (s ∷ ss)) × (defined_by (get_or (s ∷ ss) k require) ≡ named ∷ [])
    by few on (inr later) = let h = on later in (suc h.0, omega (arith, h.1), h.2)
    by (inr one) on (inl found) = (0, omega arith, here one.0 one.1 found)
    by (inl none) on (inl found) = absurd (nothing (subst (λ (ns : List Named). Contains ns named) none found))
      where
        nothing : ¬ (Contains [] named)
        nothing e = omega (arith, e.1)

abbrev pub document : List Named
document = view_named (codes "Document") ∷ []

module _ (program : List Statement) (distinct : AllDiffer (names_defined program)) where
  -- a name that stands before a statement isn't defined there
  not_again : (q : ℕ) (named : Named) → q < length program → defined_by (statement_at program q) ≡ named ∷ [] → ¬ (Contains (names_defined (take q program)) named)
  not_again q named within defines at =
      let split : program ≡ take q program ++ statement_at program q ∷ drop (q + 1) program = sym (ap (λ (rest : List Statement). take q program ++ rest) (sym (drop_more program q require within)) ∙ take-append-drop q program) in
      twice (names_defined (take q program)) (flat_map defined_by (drop (q + 1) program)) named at
      (subst (λ (names : List Named). AllDiffer names) (ap names_defined split ∙ given_at document defined_by (take q program) (drop (q + 1) program) (statement_at program q) named defines) distinct)

  pub defined_within : (q : ℕ) (named : Named) → defined_by (statement_at program q) ≡ named ∷ [] → (q < length program) ⊎ (length program ≤ q) → q < length program
  defined_within q named defines (inl below) = below
  defined_within q named defines (inr past) = absurd (no_named named (sym (ap defined_by (get_or_past program q require past)) ∙ defines))

  before_not : (p q : ℕ) (named : Named) → p < q → defined_by (statement_at program p) ≡ named ∷ [] → defined_by (statement_at program q) ≡ named ∷ [] → ⊥
  before_not p q named less one other =
      let within = defined_within q named other (cases_lt q (length program)) in
      let short : length (take q program) ≡ q = length-take-le q program (omega (arith, within)) in
      let there : defined_by (get_or (take q program) p require) ≡ named ∷ [] = ap defined_by (get_or-take q program p require less) ∙ one in
      not_again q named within other
      (Contains-append_right document (flat_map defined_by (take q program)) named
      (among_all defined_by (take q program) p require named (omega (arith, short, less)) (subst (λ (ns : List Named). Contains ns named) (sym there) (0, omega arith, refl))))

  -- a name is defined by one statement
  pub one_definer : (p q : ℕ) (named : Named) → defined_by (statement_at program p) ≡ named ∷ [] → defined_by (statement_at program q) ≡ named ∷ [] → p ≡ q
  one_definer p q named one other =
      ⊎_elim (λ same. same) (⊎_elim (λ less. absurd (before_not p q named less one other)) (λ more. absurd (before_not q p named more other one))) (cases_order p q)

  -- and `Document` by none
  pub no_document : (index : ℕ) → ¬ (CreatesView program index (codes "Document"))
  no_document index creates =
      not_again index (view_named (codes "Document")) (defined_within index (view_named (codes "Document")) creates (cases_lt index (length program))) creates (0, omega arith, refl)
