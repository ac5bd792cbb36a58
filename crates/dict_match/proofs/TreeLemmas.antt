-- The tree of all entries, when a node or an end is added.
use Rattle.std.proofs.Common.{◌≡◌, ◌≢◌, ℕ, zero, suc, ◌<◌, ◌≤◌, ◌↔◌, ◌⊎◌, inl, inr, List, [], ◌∷◌, ◌++◌, length, take, get_or, slice_get, Option, Some, None, refl, sym, ap, ap₂, subst, ◌∙◌, arith}
use Rattle.std.specs.List.{AllPairs, Contains}
use Rattle.std.proofs.lemmas.Bool.{cases_lt, cases_eq}
use Rattle.std.proofs.lemmas.List.{take-append-le, take_all, length-append, get_or_past, get_or-set_same, get_or-set_other}
use Rattle.std.proofs.lemmas.List.Elements.{Contains-get_or, Contains-append_left, Contains-push, Contains-push_cases}
use Rattle.std.proofs.lemmas.List.Quantifiers.{all_pairs_push}
use Rattle.std.proofs.Math.ListN.{set, length-set}
use Rattle.dict_match.specs.declared.trie.End.{End}
use Rattle.dict_match.specs.Tries.{LeadsOn, IsTree, HasEnds}

-- ---- a list to which one element is added, by numbers

pub at_front : {X : Type 0} (xs ys : List X) (n : ℕ) (x : X) → slice_get xs n ≡ Some x → slice_get (xs ++ ys) n ≡ Some x
at_front [] ys n x h = cc
at_front (z ∷ zs) ys zero x h = h
at_front (z ∷ zs) ys (suc n) x h = at_front zs ys n x h

pub at_end : {X : Type 0} (xs : List X) (y : X) → slice_get (xs ++ y ∷ []) (length xs) ≡ Some y
at_end [] y = refl
at_end (z ∷ zs) y = at_end zs y

pub at_cases : {X : Type 0} (xs : List X) (y : X) (n : ℕ) (x : X) → slice_get (xs ++ y ∷ []) n ≡ Some x → (slice_get xs n ≡ Some x) ⊎ ((n ≡ length xs) × (y ≡ x))
at_cases [] y zero x h = inr (refl, cc)
at_cases [] y (suc n) x h = cc
at_cases (z ∷ zs) y zero x h = inl h
at_cases (z ∷ zs) y (suc n) x h = elim (at_cases zs y n x h) [ inl a ↦ inl a | inr b ↦ inr (ap suc b.0, b.1) ]

pub some_same : {X : Type 0} (x y : X) → Some x ≡ Some y → x ≡ y
some_same x y h = cc

pub snoc_same : {X : Type 0} (xs ys : List X) (x y : X) → xs ++ x ∷ [] ≡ ys ++ y ∷ [] → (xs ≡ ys) × (x ≡ y)
snoc_same [] [] x y h = (refl, cc)
snoc_same [] (b ∷ []) x y h = cc
snoc_same [] (b ∷ c ∷ ys) x y h = cc
snoc_same (a ∷ []) [] x y h = cc
snoc_same (a ∷ b ∷ xs) [] x y h = cc
snoc_same (a ∷ xs) (b ∷ ys) x y h =
    let heads : a ≡ b = cc in
    let tails : xs ++ x ∷ [] ≡ ys ++ y ∷ [] = cc in
    let rest = snoc_same xs ys x y tails in
    (ap₂ ◌∷◌ heads rest.0, rest.1)

-- ---- a new node

abbrev Text : Type 0
Text = List ℕ

-- after a step was added, each step is the new one or as before
abbrev pub AddsStep : (ℕ → Text → Option ℕ) → (ℕ → Text → Option ℕ) → ℕ → Text → Type 0
AddsStep old new p t = (q : ℕ) (u : Text) → ((q ≡ p) × (u ≡ t)) ⊎ (((q ≡ p) × (u ≡ t) → ⊥) × (new q u ≡ old q u))

module _ (old new : ℕ → Text → Option ℕ) (paths : List (List Text)) (p : ℕ) (t : Text) (path : List Text)
    (tree : IsTree old paths) (here : slice_get paths p ≡ Some path) (none : old p t ≡ None) (some : new p t ≡ Some (length paths)) (adds : AddsStep old new p t) where
  abbrev added : List Text
  added = path ++ t ∷ []

  abbrev more : List (List Text)
  more = paths ++ added ∷ []

  -- no node has the new path yet
  pub fresh : (n : ℕ) → slice_get paths n ≡ Some added → ⊥
  fresh n h = let leads : old p t ≡ Some n = (tree.leads p t n).1 (record { path = path; «from» = here; to = h }) in cc

  once : (i j : ℕ) (x : List Text) → slice_get more i ≡ Some x → slice_get more j ≡ Some x → i ≡ j
  once i j x h k = elim (at_cases paths added i x h) [
    | inl a ↦ elim (at_cases paths added j x k) [
      | inl b ↦ tree.once i j x a b
      | inr b ↦ absurd (fresh i (a ∙ ap Some (sym b.1)))
    ]
    | inr a ↦ elim (at_cases paths added j x k) [
      | inl b ↦ absurd (fresh j (b ∙ ap Some (sym a.1)))
      | inr b ↦ a.0 ∙ sym b.0
    ]
  ]

  closed_added : (k : ℕ) → (m : ℕ) × (slice_get more m ≡ Some (take k added))
  closed_added k = elim (cases_lt (length path) k) [
    | inl lt ↦ (length paths, at_end paths added ∙ ap Some (sym (take_all k added (omega (arith, length-append path (t ∷ []))))))
    | inr le ↦ let short : k ≤ length path = omega arith in
        let m = tree.closed p k path here in
        (m.0, at_front paths (added ∷ []) m.0 (take k path) m.1 ∙ ap Some (sym (take-append-le k path (t ∷ []) short)))
  ]

  closed : (n k : ℕ) (x : List Text) → slice_get more n ≡ Some x → (m : ℕ) × (slice_get more m ≡ Some (take k x))
  closed n k x h = elim (at_cases paths added n x h) [
    | inl a ↦ let m = tree.closed n k x a in (m.0, at_front paths (added ∷ []) m.0 (take k x) m.1)
    | inr a ↦ let m = closed_added k in (m.0, m.1 ∙ ap (λ (z : List Text). Some (take k z)) a.1)
  ]

  leads_to : (node : ℕ) (u : Text) (next : ℕ) → new node u ≡ Some next → LeadsOn more node u next
  leads_to node u next h = elim (adds node u) [
    | inl same ↦
        let arrived : Some next ≡ Some (length paths) = sym h ∙ ap₂ new same.0 same.1 ∙ some in
        let same_node : next ≡ length paths = some_same next (length paths) arrived in
        record {
          path = path;
          «from» = ap (slice_get more) same.0 ∙ at_front paths (added ∷ []) p path here;
          to = ap (slice_get more) same_node ∙ at_end paths added ∙ ap (λ (v : Text). Some (path ++ v ∷ [])) (sym same.1);
        }
    | inr other ↦
        let led = (tree.leads node u next).0 (sym other.1 ∙ h) in
        record {
          path = led.path;
          «from» = at_front paths (added ∷ []) node led.path led.«from»;
          to = at_front paths (added ∷ []) next (led.path ++ u ∷ []) led.to;
        }
  ]

  kept_step : (node : ℕ) (u : Text) (next : ℕ) → old node u ≡ Some next → new node u ≡ Some next
  kept_step node u next h = elim (adds node u) [
    | inl same ↦ let gone : old node u ≡ None = ap₂ old same.0 same.1 ∙ none in cc
    | inr other ↦ other.1 ∙ h
  ]

  leads_from : (node : ℕ) (u : Text) (next : ℕ) → LeadsOn more node u next → new node u ≡ Some next
  leads_from node u next led = elim (at_cases paths added node led.path led.«from») [
    | inl a ↦ elim (at_cases paths added next (led.path ++ u ∷ []) led.to) [
      | inl b ↦ kept_step node u next ((tree.leads node u next).1 (record { path = led.path; «from» = a; to = b }))
      | inr b ↦
          let same = snoc_same path led.path t u b.1 in
          let same_node = tree.once node p path (a ∙ ap Some (sym same.0)) here in
          ap₂ new same_node (sym same.1) ∙ some ∙ ap Some (sym b.0)
    ]
    | inr a ↦ elim (at_cases paths added next (led.path ++ u ∷ []) led.to) [
      | inl b ↦
          let m = tree.closed next (length led.path) (led.path ++ u ∷ []) b in
          let front : take (length led.path) (led.path ++ u ∷ []) ≡ led.path =
          take-append-le (length led.path) led.path (u ∷ []) (omega arith) ∙ take_all (length led.path) led.path (omega arith) in
          absurd (fresh m.0 (m.1 ∙ ap Some (front ∙ sym a.1)))
      | inr b ↦
          let longer : length (led.path ++ u ∷ []) ≡ length led.path = ap length (sym b.1 ∙ a.1) in
          absurd (omega (arith, longer, length-append led.path (u ∷ [])))
    ]
  ]

  pub IsTree-added : IsTree new more
  IsTree-added = record {
    root = at_front paths (added ∷ []) 0 [] tree.root;
    leads = λ node u next. (leads_to node u next, leads_from node u next);
    once = once;
    closed = closed;
  }

-- a step that is equal everywhere makes the same tree
pub IsTree-same : (old new : ℕ → Text → Option ℕ) (paths : List (List Text)) → ((q : ℕ) (u : Text) → new q u ≡ old q u) → IsTree old paths → IsTree new paths
IsTree-same old new paths same tree = record {
  root = tree.root;
  leads = λ node u next. (λ h. (tree.leads node u next).0 (sym (same node u) ∙ h), λ led. same node u ∙ (tree.leads node u next).1 led);
  once = tree.once;
  closed = tree.closed;
}

-- ---- ends

none_listed : (e : End) → Contains [] e → ⊥
none_listed e h = let k = h.1 in omega arith

one_more : (ends : List (List End)) (n : ℕ) → get_or (ends ++ [] ∷ []) n [] ≡ get_or ends n []
one_more [] zero = refl
one_more [] (suc n) = refl
one_more (x ∷ xs) zero = refl
one_more (x ∷ xs) (suc n) = one_more xs n

-- a node without ends is added
pub HasEnds-added : (ends : List (List End)) (paths : List (List Text)) (put : List (List Text × End)) (path : List Text) →
    ((n : ℕ) → slice_get paths n ≡ Some path → ⊥) → HasEnds ends paths put → HasEnds (ends ++ [] ∷ []) (paths ++ path ∷ []) put
HasEnds-added ends paths put path fresh has = record {
  size = omega (arith, has.size, length-append ends ([] ∷ []), length-append paths (path ∷ []));
  listed = λ n x h e. subst (λ (es : List End). Contains es e ↔ Contains put (x, e)) (sym (one_more ends n)) (elim (at_cases paths path n x h) [
    | inl a ↦ has.listed n x a e
    | inr a ↦
        let past : get_or ends n [] ≡ [] = get_or_past ends n [] (omega (arith, a.0, has.size)) in (
          λ c. absurd (none_listed e (subst (λ (es : List End). Contains es e) past c)),
          λ c. let k = has.kept x e c in absurd (fresh k.0 (k.1 ∙ ap Some (sym a.1))),
        )
  ]);
  once = λ n. subst (AllPairs ◌≢◌) (sym (one_more ends n)) (has.once n);
  kept = λ x e c. let k = has.kept x e c in (k.0, at_front paths (path ∷ []) k.0 x k.1);
}

-- what is put in twice
pub HasEnds-again : (ends : List (List End)) (paths : List (List Text)) (put : List (List Text × End)) (node : ℕ) (path : List Text) (end : End) →
    ((i j : ℕ) (x : List Text) → slice_get paths i ≡ Some x → slice_get paths j ≡ Some x → i ≡ j) →
    slice_get paths node ≡ Some path → Contains (get_or ends node []) end → HasEnds ends paths put → HasEnds ends paths (put ++ (path, end) ∷ [])
HasEnds-again ends paths put node path end one here there has = record {
  size = has.size;
  listed = λ n x h e. (
    λ c. Contains-append_left put ((path, end) ∷ []) (x, e) ((has.listed n x h e).0 c),
    λ c. elim (Contains-push_cases put (path, end) (x, e) c) [
      | inl a ↦ (has.listed n x h e).1 a
      | inr a ↦
          let same_path : path ≡ x = ap (λ (p : List Text × End). p.0) a in
          let same_end : end ≡ e = ap (λ (p : List Text × End). p.1) a in
          let same_node = one node n x (here ∙ ap Some same_path) h in
          subst (λ (v : End). Contains (get_or ends n []) v) same_end (subst (λ (m : ℕ). Contains (get_or ends m []) end) same_node there)
    ],
  );
  once = has.once;
  kept = λ x e c. elim (Contains-push_cases put (path, end) (x, e) c) [
    | inl a ↦ has.kept x e a
    | inr a ↦ (node, here ∙ ap (λ (p : List Text × End). Some p.0) a)
  ];
}

-- an end that isn't there is put behind the others of a node
pub HasEnds-pushed : (ends : List (List End)) (paths : List (List Text)) (put : List (List Text × End)) (node : ℕ) (path : List Text) (end : End) →
    ((i j : ℕ) (x : List Text) → slice_get paths i ≡ Some x → slice_get paths j ≡ Some x → i ≡ j) →
    slice_get paths node ≡ Some path → node < length ends → (Contains (get_or ends node []) end → ⊥) → HasEnds ends paths put →
    HasEnds (set ends node (get_or ends node [] ++ end ∷ [])) paths (put ++ (path, end) ∷ [])
HasEnds-pushed ends paths put node path end one here within gone has =
    let es : List End = get_or ends node [] in
    let new : List (List End) = set ends node (es ++ end ∷ []) in
    let at_node : get_or new node [] ≡ es ++ end ∷ [] = get_or-set_same ends node (es ++ end ∷ []) [] within in
    record {
      size = length-set ends node (es ++ end ∷ []) ∙ has.size;
      listed = λ n x h e. elim (cases_eq n node) [
        | inl same ↦
            let path_is : path ≡ x = some_same path x (sym here ∙ ap (slice_get paths) (sym same) ∙ h) in
            let listed = has.listed n x h e in (
              λ c. elim (Contains-push_cases es end e (subst (λ (l : List End). Contains l e) (ap (λ (m : ℕ). get_or new m []) same ∙ at_node) c)) [
                | inl a ↦ Contains-append_left put ((path, end) ∷ []) (x, e) (listed.0 (subst (λ (m : ℕ). Contains (get_or ends m []) e) (sym same) a))
                | inr a ↦ subst (λ (q : List Text × End). Contains (put ++ (path, end) ∷ []) q) (ap₂ (λ (y : List Text) (v : End). let q : List Text × End = (y, v) in q) path_is a) (Contains-push put (path, end))
              ],
              λ c. subst (λ (l : List End). Contains l e) (sym (ap (λ (m : ℕ). get_or new m []) same ∙ at_node)) (elim (Contains-push_cases put (path, end) (x, e) c) [
                | inl a ↦ Contains-append_left es (end ∷ []) e (subst (λ (m : ℕ). Contains (get_or ends m []) e) same (listed.1 a))
                | inr a ↦ subst (Contains (es ++ end ∷ [])) (ap (λ (q : List Text × End). q.1) a) (Contains-push es end)
              ]),
            )
        | inr other ↦
            let apart : get_or new n [] ≡ get_or ends n [] = get_or-set_other ends node n (es ++ end ∷ []) [] other in
            let listed = has.listed n x h e in (
              λ c. Contains-append_left put ((path, end) ∷ []) (x, e) (listed.0 (subst (λ (l : List End). Contains l e) apart c)),
              λ c. subst (λ (l : List End). Contains l e) (sym apart) (elim (Contains-push_cases put (path, end) (x, e) c) [
                | inl a ↦ listed.1 a
                | inr a ↦ absurd (other (one n node x h (here ∙ ap (λ (q : List Text × End). Some q.0) a)))
              ]),
            )
      ];
      once = λ n. elim (cases_eq n node) [
        | inl same ↦ subst (AllPairs ◌≢◌) (sym (ap (λ (m : ℕ). get_or new m []) same ∙ at_node))
            (all_pairs_push ◌≢◌ es end (has.once node) (λ k d lt is. gone (subst (Contains es) is (Contains-get_or es k d lt))))
        | inr other ↦ subst (AllPairs ◌≢◌) (sym (get_or-set_other ends node n (es ++ end ∷ []) [] other)) (has.once n)
      ];
      kept = λ x e c. elim (Contains-push_cases put (path, end) (x, e) c) [
        | inl a ↦ has.kept x e a
        | inr a ↦ (node, here ∙ ap (λ (q : List Text × End). Some q.0) a)
      ];
    }
