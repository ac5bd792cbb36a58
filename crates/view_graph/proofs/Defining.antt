-- One more statement: what it defines, and what the code's maps keep of it.
use Rattle.std.proofs.Common.{◌≡◌, ◌∙◌, ◌+◌, ◌<◌, ◌≤◌, ◌⊎◌, inl, inr, ℕ, Bool, true, false, cond, List, [], ◌∷◌, ◌++◌, flat_map, length, get_or, Option, Some, None, Contains, refl, ap, sym, subst, ⊎_elim, append_assoc, arith, codes, IsSome, true≢false}
use Rattle.std.specs.Str.{bytes_eq}
use Rattle.std.specs.Map.{update}
use Rattle.std.proofs.lemmas.Slice.Eq.{bytes_eq-Decides}
use Rattle.std.proofs.lemmas.List.{append-nil, get_or_append_left, get_or_push, get_or_past, get_or_default, length_push}
use Rattle.std.proofs.lemmas.List.Elements.{Contains-push, Contains-push_cases, Contains-append_left, Contains-append_cases}
use Rattle.std.proofs.lemmas.Bool.{cases_lt, cases_order}
use Rattle.std.proofs.lemmas.List.Quantifiers.{all_pairs_push}
use Rattle.aql_syntax.specs.Trees.{Statement, require}
use Rattle.view_graph.specs.Names.{Named, view_named, dictionary_named, defined_by, names_defined, AllDiffer}
use Rattle.view_graph.specs.Faults.{DefinesAgain, text_of}
use Rattle.view_graph.specs.Uses.{CreatesView, CreatesDictionary}
use Rattle.view_graph.specs.Indexes.{IndexesViews, IndexesDictionaries, IndexesNames}

two : (m n : ℕ) → (m < n) ⊎ (n ≤ m)
two m n = cases_lt m n

three : (m n : ℕ) → (m < n) ⊎ ((m ≡ n) ⊎ (n < m))
three m n = ⊎_elim (λ e. inr (inl e)) (⊎_elim inl (λ h. inr (inr h))) (cases_order m n)

-- a list of one has that one
in_one : {X : Type 0} (x y : X) → Contains (x ∷ []) y → x ≡ y
in_one x y at = ⊎_elim (λ none. absurd (omega (arith, none.1))) (λ same. same) (Contains-push_cases [] x y at)

pub flat_map-push : {X A : Type 0} (f : X → List A) (xs : List X) (x : X) → flat_map f (xs ++ x ∷ []) ≡ flat_map f xs ++ f x
flat_map-push f [] x = append-nil (f x)
flat_map-push f (y ∷ ys) x = ap (λ rest. f y ++ rest) (flat_map-push f ys x) ∙ sym (append_assoc (f y) (flat_map f ys) (f x))

pub names_defined-push : (before : List Statement) (s : Statement) → names_defined (before ++ s ∷ []) ≡ names_defined before ++ defined_by s
names_defined-push before s = ap (λ rest. view_named (codes "Document") ∷ rest) (flat_map-push defined_by before s)

-- a statement that defines nothing leaves the names
names_defined-none : (before : List Statement) (s : Statement) → defined_by s ≡ [] → names_defined (before ++ s ∷ []) ≡ names_defined before
names_defined-none before s none = names_defined-push before s ∙ ap (λ more. names_defined before ++ more) none ∙ append-nil (names_defined before)

names_defined-one : (before : List Statement) (s : Statement) (named : Named) → defined_by s ≡ named ∷ [] → names_defined (before ++ s ∷ []) ≡ names_defined before ++ named ∷ []
names_defined-one before s named one = names_defined-push before s ∙ ap (λ more. names_defined before ++ more) one

module _ (before : List Statement) (s : Statement) where
  -- only a statement of the program creates a view
  pub creates_within : (index : ℕ) (name : List ℕ) → CreatesView before index name → (index < length before) ⊎ (length before ≤ index) → index < length before
  creates_within index name creates (inl below) = below
  creates_within index name creates (inr past) = absurd (nothing (sym (ap defined_by (get_or_past before index require past)) ∙ creates))
    where
      nothing : ◌≡◌ {A = List Named} [] (view_named name ∷ []) → ⊥
      nothing e = cc

  creates_kept : (index : ℕ) (name : List ℕ) → index < length before → CreatesView before index name → CreatesView (before ++ s ∷ []) index name
  creates_kept index name below creates = ap defined_by (get_or_append_left before (s ∷ []) require index below) ∙ creates

  -- a name that is defined stays so
  kept_at : (index : ℕ) (named : Named) → (index < length before) ⊎ (length before ≤ index) → defined_by (get_or before index require) ≡ named ∷ [] → defined_by (get_or (before ++ s ∷ []) index require) ≡ named ∷ []
  kept_at index named (inl below) defines = ap defined_by (get_or_append_left before (s ∷ []) require index below) ∙ defines
  kept_at index named (inr past) defines = absurd (nothing (sym (ap defined_by (get_or_past before index require past)) ∙ defines))
    where
      nothing : ◌≡◌ {A = List Named} [] (named ∷ []) → ⊥
      nothing e = cc

  creates_cases : (index : ℕ) (name : List ℕ) → (index < length before) ⊎ ((index ≡ length before) ⊎ (length before < index)) → CreatesView (before ++ s ∷ []) index name
      → CreatesView before index name ⊎ ((index ≡ length before) × (defined_by s ≡ view_named name ∷ []))
  creates_cases index name (inl below) creates = inl (sym (ap defined_by (get_or_append_left before (s ∷ []) require index below)) ∙ creates)
  creates_cases index name (inr (inl at)) creates = inr (at, sym (ap defined_by (get_or_push before s require index (sym at))) ∙ creates)
  creates_cases index name (inr (inr past)) creates = absurd (nothing (sym (ap defined_by (get_or_past (before ++ s ∷ []) index require (omega (arith, length_push before s)))) ∙ creates))
    where
      nothing : ◌≡◌ {A = List Named} [] (view_named name ∷ []) → ⊥
      nothing e = cc

  -- the names that no statement before defines, where the one name of this statement is none of them
  distinct_more : (named : Named) → defined_by s ≡ named ∷ [] → ¬ (Contains (names_defined before) named) → AllDiffer (names_defined before) → AllDiffer (names_defined (before ++ s ∷ []))
  distinct_more named one new distinct =
      subst (λ (names : List Named). AllDiffer names) (sym (names_defined-one before s named one))
      (all_pairs_push (λ a b. ¬ (a ≡ b)) (names_defined before) named distinct
      (λ k d below same. new (k, below, get_or_default (names_defined before) k named d below ∙ same)))

  module _ (more : List Named) (defines : defined_by s ≡ more) where
    defined_kept : (named : Named) → Contains (names_defined before) named → Contains (names_defined (before ++ s ∷ [])) named
    defined_kept named at = subst (λ (names : List Named). Contains names named) (sym (names_defined-push before s)) (Contains-append_left (names_defined before) (defined_by s) named at)

    defined_cases : (named : Named) → Contains (names_defined (before ++ s ∷ [])) named → Contains (names_defined before) named ⊎ Contains more named
    defined_cases named at =
        Contains-append_cases (names_defined before) more named
        (subst (λ (names : List Named). Contains names named) (names_defined-push before s ∙ ap (λ names. names_defined before ++ names) defines) at)

    -- a statement that creates no view leaves the views
    views_kept : (entry : List ℕ → Option (Option ℕ)) → ((q : List ℕ) → ¬ (Contains more (view_named q))) → IndexesViews before entry → IndexesViews (before ++ s ∷ []) entry
    views_kept entry none views = record {
      there = λ index q creates. ⊎_elim (views.there index q) (λ h. absurd (none q (0, subst (λ (names : List Named). 0 < length names) (sym h.1 ∙ defines) (omega arith), subst (λ (names : List Named). get_or names 0 (view_named q) ≡ view_named q) (sym h.1 ∙ defines) refl)))
          (creates_cases index q (three index (length before)) creates);
      only = λ index q is. let old = views.only index q is in creates_kept index q (creates_within index q old (two index (length before))) old;
      known = λ q is. defined_kept (view_named q) (views.known q is);
      unknown = λ q is at. ⊎_elim (views.unknown q is) (none q) (defined_cases (view_named q) at);
    }

    dictionaries_kept : (there : List ℕ → Option ℕ) → ((q : List ℕ) → ¬ (Contains more (dictionary_named q))) → IndexesDictionaries before there → IndexesDictionaries (before ++ s ∷ []) there
    dictionaries_kept there none dictionaries = record {
      only = λ index q is. kept_at index (dictionary_named q) (two index (length before)) (dictionaries.only index q is);
      known = λ q is. defined_kept (dictionary_named q) (dictionaries.known q is);
      unknown = λ q is at. ⊎_elim (dictionaries.unknown q is) (none q) (defined_cases (dictionary_named q) at);
    }

  module _ (name : List ℕ) where
    module _ (one : defined_by s ≡ view_named name ∷ []) (entry new : List ℕ → Option (Option ℕ)) (absent : entry name ≡ None)
        (updates : (q : List ℕ) → new q ≡ update bytes_eq entry name (Some (Some (length before))) q) where
      updated : (q : List ℕ) → ((name ≡ q) × (new q ≡ Some (Some (length before)))) ⊎ (¬ (name ≡ q) × (new q ≡ entry q))
      updated q = by (bytes_eq name q) refl
        where
          by : (b : Bool) → bytes_eq name q ≡ b → ((name ≡ q) × (new q ≡ Some (Some (length before)))) ⊎ (¬ (name ≡ q) × (new q ≡ entry q))
          by true e = inl ((bytes_eq-Decides name q).0 e, updates q ∙ ap (λ (t : Bool). cond t (Some (Some (length before))) (entry q)) e)
          by false e = inr ((λ same. true≢false (sym ((bytes_eq-Decides name q).1 same) ∙ e)), updates q ∙ ap (λ (t : Bool). cond t (Some (Some (length before))) (entry q)) e)

      view_there : IndexesViews before entry → (index : ℕ) (q : List ℕ) → CreatesView before index q ⊎ ((index ≡ length before) × (defined_by s ≡ view_named q ∷ []))
          → ((name ≡ q) × (new q ≡ Some (Some (length before)))) ⊎ (¬ (name ≡ q) × (new q ≡ entry q)) → new q ≡ Some (Some index)
      view_there views index q (inl old) (inl is) = absurd (nothing (sym absent ∙ ap entry is.0 ∙ views.there index q old))
        where
          nothing : ◌≡◌ {A = Option (Option ℕ)} None (Some (Some index)) → ⊥
          nothing e = cc
      view_there views index q (inl old) (inr is) = is.1 ∙ views.there index q old
      view_there views index q (inr at) (inl is) = is.1 ∙ ap (λ (n : ℕ). Some (Some n)) (sym at.0)
      view_there views index q (inr at) (inr is) = absurd (is.0 (same (sym one ∙ at.1)))
        where
          same : ◌≡◌ {A = List Named} (view_named name ∷ []) (view_named q ∷ []) → name ≡ q
          same e = cc

      view_only : IndexesViews before entry → (index : ℕ) (q : List ℕ) → ((name ≡ q) × (new q ≡ Some (Some (length before)))) ⊎ (¬ (name ≡ q) × (new q ≡ entry q)) → new q ≡ Some (Some index) → CreatesView (before ++ s ∷ []) index q
      view_only views index q (inl is) h =
          let at : length before ≡ index = same (sym is.1 ∙ h) in
          ap defined_by (get_or_push before s require index at) ∙ one ∙ ap (λ (text : List ℕ). view_named text ∷ []) is.0
        where
          same : ◌≡◌ {A = Option (Option ℕ)} (Some (Some (length before))) (Some (Some index)) → length before ≡ index
          same e = cc
      view_only views index q (inr is) h =
          let old = views.only index q (sym is.1 ∙ h) in
          creates_kept index q (creates_within index q old (two index (length before))) old

      view_known : IndexesViews before entry → (q : List ℕ) → ((name ≡ q) × (new q ≡ Some (Some (length before)))) ⊎ (¬ (name ≡ q) × (new q ≡ entry q)) → IsSome (new q) → Contains (names_defined (before ++ s ∷ [])) (view_named q)
      view_known views q (inl is) h =
          subst (λ (names : List Named). Contains names (view_named q)) (sym (names_defined-one before s (view_named name) one))
          (subst (λ (text : List ℕ). Contains (names_defined before ++ view_named name ∷ []) (view_named text)) is.0 (Contains-push (names_defined before) (view_named name)))
      view_known views q (inr is) h = defined_kept (view_named name ∷ []) one (view_named q) (views.known q (subst (λ (o : Option (Option ℕ)). IsSome o) is.1 h))

      view_unknown : IndexesViews before entry → (q : List ℕ) → ((name ≡ q) × (new q ≡ Some (Some (length before)))) ⊎ (¬ (name ≡ q) × (new q ≡ entry q)) → new q ≡ None
          → Contains (names_defined before) (view_named q) ⊎ Contains (view_named name ∷ []) (view_named q) → ⊥
      view_unknown views q (inl is) h at = nothing (sym h ∙ is.1)
        where
          nothing : ◌≡◌ {A = Option (Option ℕ)} None (Some (Some (length before))) → ⊥
          nothing e = cc
      view_unknown views q (inr is) h (inl old) = views.unknown q (sym is.1 ∙ h) old
      view_unknown views q (inr is) h (inr at) = is.0 (same (in_one (view_named name) (view_named q) at))
        where
          same : view_named name ≡ view_named q → name ≡ q
          same e = cc

      -- a view that wasn't there
      pub index_view : (there : List ℕ → Option ℕ) → IndexesNames before entry there → IndexesNames (before ++ s ∷ []) new there
      index_view there names = record {
        views = record {
          there = λ index q creates. view_there names.views index q (creates_cases index q (three index (length before)) creates) (updated q);
          only = λ index q is. view_only names.views index q (updated q) is;
          known = λ q is. view_known names.views q (updated q) is;
          unknown = λ q is at. view_unknown names.views q (updated q) is (defined_cases (view_named name ∷ []) one (view_named q) at);
        };
        dictionaries = dictionaries_kept (view_named name ∷ []) one there (λ q at. apart q (in_one (view_named name) (dictionary_named q) at)) names.dictionaries;
        distinct = distinct_more (view_named name) one (names.views.unknown name absent) names.distinct;
      }
        where
          apart : (q : List ℕ) → view_named name ≡ dictionary_named q → ⊥
          apart q e = cc

    module _ (one : defined_by s ≡ dictionary_named name ∷ []) (there new : List ℕ → Option ℕ) (absent : there name ≡ None)
        (updates : (q : List ℕ) → new q ≡ update bytes_eq there name (Some (length before)) q) where
      abbrev Updated : List ℕ → Type 0
      Updated q = ((name ≡ q) × (new q ≡ Some (length before))) ⊎ (¬ (name ≡ q) × (new q ≡ there q))

      dictionary_updated : (q : List ℕ) → Updated q
      dictionary_updated q = by (bytes_eq name q) refl
        where
          by : (b : Bool) → bytes_eq name q ≡ b → Updated q
          by true e = inl ((bytes_eq-Decides name q).0 e, updates q ∙ ap (λ (t : Bool). cond t (Some (length before)) (there q)) e)
          by false e = inr ((λ same. true≢false (sym ((bytes_eq-Decides name q).1 same) ∙ e)), updates q ∙ ap (λ (t : Bool). cond t (Some (length before)) (there q)) e)

      dictionary_only : IndexesDictionaries before there → (index : ℕ) (q : List ℕ) → Updated q → new q ≡ Some index → CreatesDictionary (before ++ s ∷ []) index q
      dictionary_only dictionaries index q (inl is) h =
          ap defined_by (get_or_push before s require index (same (sym is.1 ∙ h))) ∙ one ∙ ap (λ (text : List ℕ). dictionary_named text ∷ []) is.0
        where
          same : ◌≡◌ {A = Option ℕ} (Some (length before)) (Some index) → length before ≡ index
          same e = cc
      dictionary_only dictionaries index q (inr is) h = kept_at index (dictionary_named q) (two index (length before)) (dictionaries.only index q (sym is.1 ∙ h))

      dictionary_known : IndexesDictionaries before there → (q : List ℕ) → Updated q → IsSome (new q) → Contains (names_defined (before ++ s ∷ [])) (dictionary_named q)
      dictionary_known dictionaries q (inl is) h =
          subst (λ (names : List Named). Contains names (dictionary_named q)) (sym (names_defined-one before s (dictionary_named name) one))
          (subst (λ (text : List ℕ). Contains (names_defined before ++ dictionary_named name ∷ []) (dictionary_named text)) is.0 (Contains-push (names_defined before) (dictionary_named name)))
      dictionary_known dictionaries q (inr is) h = defined_kept (dictionary_named name ∷ []) one (dictionary_named q) (dictionaries.known q (subst (λ (o : Option ℕ). IsSome o) is.1 h))

      dictionary_unknown : IndexesDictionaries before there → (q : List ℕ) → Updated q → new q ≡ None
          → Contains (names_defined before) (dictionary_named q) ⊎ Contains (dictionary_named name ∷ []) (dictionary_named q) → ⊥
      dictionary_unknown dictionaries q (inl is) h at = nothing (sym h ∙ is.1)
        where
          nothing : ◌≡◌ {A = Option ℕ} None (Some (length before)) → ⊥
          nothing e = cc
      dictionary_unknown dictionaries q (inr is) h (inl old) = dictionaries.unknown q (sym is.1 ∙ h) old
      dictionary_unknown dictionaries q (inr is) h (inr at) = is.0 (same (in_one (dictionary_named name) (dictionary_named q) at))
        where
          same : dictionary_named name ≡ dictionary_named q → name ≡ q
          same e = cc

      -- a dictionary that wasn't there
      pub index_dictionary : (entry : List ℕ → Option (Option ℕ)) → IndexesNames before entry there → IndexesNames (before ++ s ∷ []) entry new
      index_dictionary entry names = record {
        views = views_kept (dictionary_named name ∷ []) one entry (λ q at. apart q (in_one (dictionary_named name) (view_named q) at)) names.views;
        dictionaries = record {
          only = λ index q is. dictionary_only names.dictionaries index q (dictionary_updated q) is;
          known = λ q is. dictionary_known names.dictionaries q (dictionary_updated q) is;
          unknown = λ q is at. dictionary_unknown names.dictionaries q (dictionary_updated q) is (defined_cases (dictionary_named name ∷ []) one (dictionary_named q) at);
        };
        distinct = distinct_more (dictionary_named name) one (names.dictionaries.unknown name absent) names.distinct;
      }
        where
          apart : (q : List ℕ) → dictionary_named name ≡ view_named q → ⊥
          apart q e = cc

  -- a statement that defines nothing
  pub index_none : (entry : List ℕ → Option (Option ℕ)) (there : List ℕ → Option ℕ) → defined_by s ≡ [] → IndexesNames before entry there → IndexesNames (before ++ s ∷ []) entry there
  index_none entry there none names = record {
    views = views_kept [] none entry (λ q at. absurd (omega (arith, at.1))) names.views;
    dictionaries = dictionaries_kept [] none there (λ q at. absurd (omega (arith, at.1))) names.dictionaries;
    distinct = subst (λ (names : List Named). AllDiffer names) (sym (names_defined-none before s none)) names.distinct;
  }

  -- a name that was there
  pub defined_twice : (after : List Statement) (named : Named) (text : List ℕ) (number : ℕ) → defined_by s ≡ named ∷ [] → text ≡ text_of named → number ≡ length before + 1
      → Contains (names_defined before) named → AllDiffer (names_defined before) → DefinesAgain (before ++ s ∷ after) number text
  defined_twice after named text number one is number_is again distinct = record {
    before = before;
    statement = s;
    numbered = record { after = after; split = refl; number_is = number_is };
    named = named;
    defines = one;
    name_is = is;
    again = again;
    first = distinct;
  }

module _ (entry : List ℕ → Option (Option ℕ)) (there : List ℕ → Option ℕ)
    (document : (q : List ℕ) → entry q ≡ update bytes_eq (λ _. None) (codes "Document") (Some None) q) (none : (q : List ℕ) → there q ≡ None) where
  entry_by : (q : List ℕ) (b : Bool) → bytes_eq (codes "Document") q ≡ b → ((codes "Document" ≡ q) × (entry q ≡ Some None)) ⊎ (¬ (codes "Document" ≡ q) × (entry q ≡ None))
  entry_by q true e = inl ((bytes_eq-Decides (codes "Document") q).0 e, document q ∙ ap (λ (t : Bool). cond t (Some None) None) e)
  entry_by q false e = inr ((λ same. true≢false (sym ((bytes_eq-Decides (codes "Document") q).1 same) ∙ e)), document q ∙ ap (λ (t : Bool). cond t (Some None) None) e)

  entry_cases : (q : List ℕ) → ((codes "Document" ≡ q) × (entry q ≡ Some None)) ⊎ (¬ (codes "Document" ≡ q) × (entry q ≡ None))
  entry_cases q = entry_by q (bytes_eq (codes "Document") q) refl

  first_only : (index : ℕ) (q : List ℕ) → ((codes "Document" ≡ q) × (entry q ≡ Some None)) ⊎ (¬ (codes "Document" ≡ q) × (entry q ≡ None)) → entry q ≡ Some (Some index) → CreatesView [] index q
  first_only index q (inl is) h = absurd (nothing (sym is.1 ∙ h))
    where
      nothing : ◌≡◌ {A = Option (Option ℕ)} (Some None) (Some (Some index)) → ⊥
      nothing e = cc
  first_only index q (inr is) h = absurd (nothing (sym is.1 ∙ h))
    where
      nothing : ◌≡◌ {A = Option (Option ℕ)} None (Some (Some index)) → ⊥
      nothing e = cc

  first_known : (q : List ℕ) → ((codes "Document" ≡ q) × (entry q ≡ Some None)) ⊎ (¬ (codes "Document" ≡ q) × (entry q ≡ None)) → IsSome (entry q) → Contains (names_defined []) (view_named q)
  first_known q (inl is) h = (0, omega arith, ap view_named is.0)
  first_known q (inr is) h = absurd (subst (λ (o : Option (Option ℕ)). IsSome o → ⊥) (sym is.1) (λ e. true≢false (sym e)) h)

  first_unknown : (q : List ℕ) → ((codes "Document" ≡ q) × (entry q ≡ Some None)) ⊎ (¬ (codes "Document" ≡ q) × (entry q ≡ None)) → entry q ≡ None → view_named (codes "Document") ≡ view_named q → ⊥
  first_unknown q (inl is) h at = nothing (sym is.1 ∙ h)
    where
      nothing : ◌≡◌ {A = Option (Option ℕ)} (Some None) None → ⊥
      nothing e = cc
  first_unknown q (inr is) h at = is.0 (same at)
    where
      same : view_named (codes "Document") ≡ view_named q → codes "Document" ≡ q
      same e = cc

  -- before the first statement
  pub index_first : IndexesNames [] entry there
  index_first = record {
    views = record {
      there = λ index q creates. absurd (nothing q creates);
      only = λ index q is. first_only index q (entry_cases q) is;
      known = λ q is. first_known q (entry_cases q) is;
      unknown = λ q is at. first_unknown q (entry_cases q) is (in_one (view_named (codes "Document")) (view_named q) at);
    };
    dictionaries = record {
      only = λ index q is. absurd (empty index (sym (none q) ∙ is));
      known = λ q is. absurd (subst (λ (o : Option ℕ). IsSome o → ⊥) (sym (none q)) (λ e. true≢false (sym e)) is);
      unknown = λ q is at. apart q (in_one (view_named (codes "Document")) (dictionary_named q) at);
    };
    distinct = λ i j d below within same. absurd (omega arith);
  }
    where
      nothing : (q : List ℕ) → ◌≡◌ {A = List Named} [] (view_named q ∷ []) → ⊥
      nothing q e = cc

      empty : (index : ℕ) → ◌≡◌ {A = Option ℕ} None (Some index) → ⊥
      empty index e = cc

      apart : (q : List ℕ) → view_named (codes "Document") ≡ dictionary_named q → ⊥
      apart q e = cc
