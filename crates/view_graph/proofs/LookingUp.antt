-- What is found of a name that is looked up, and of one name after another.
use Rattle.std.proofs.Common.{◌≡◌, ◌∙◌, ◌+◌, ◌<◌, ◌⊎◌, inl, inr, ⊎_elim, ℕ, List, [], ◌∷◌, ◌++◌, take, length, get_or, Option, Some, None, IsSome, Contains, All, refl, ap, sym, subst, arith}
use Rattle.std.proofs.lemmas.List.Elements.{All-push, All-append, Contains-push, Contains-push_cases, Contains-append_left}
use Rattle.std.proofs.lemmas.List.{take_more, get_or_push, get_or_append_left, length_push}
use Rattle.std.proofs.lemmas.Bool.{cases_order}
use Rattle.aql_syntax.specs.Trees.{Name, Query, Statement, create, require}
use Rattle.view_graph.specs.declared.uses.Found.TheVariants.{View, Other, Nothing}
use Rattle.view_graph.specs.declared.fault.NameFault.{NameFault}
use Rattle.view_graph.specs.Names.{Named, view_named, dictionary_named, names_defined, names_looked_up, names_used_by, names_in_query, looked_up_by, IsDefined, AllDiffer}
use Rattle.view_graph.specs.Faults.{LooksUpUndefined}
use Rattle.view_graph.specs.Uses.{CreatesView, statement_at}
use Rattle.view_graph.specs.Answers.{IsNameFault}
use Rattle.view_graph.specs.Indexes.{IndexesNames}
use Rattle.view_graph.specs.Lookups.{LooksUp, AreViewsNamed, AreViewsUsed, MentionsUndefined, Unknown, IsUseGraph}
use Rattle.view_graph.proofs.Defining.{flat_map-push}

same_view : (a b : List ℕ) → view_named a ≡ view_named b → a ≡ b
same_view a b e = cc

apart : (a b : List ℕ) → dictionary_named a ≡ view_named b → ⊥
apart a b e = cc

module _ (program : List Statement) (entry : List ℕ → Option (Option ℕ)) (there : List ℕ → Option ℕ) (names : IndexesNames program entry there)
    (named : Named) (text : List ℕ) where
  defined_as : (other : Named) → named ≡ other → IsDefined program other → IsDefined program named
  defined_as other is at = subst (λ (n : Named). IsDefined program n) (sym is) at

  is_some : (entered : Option ℕ) → entry text ≡ Some entered → IsSome (entry text)
  is_some entered e = subst (λ (o : Option (Option ℕ)). IsSome o) (sym e) refl

  pub found_view : (view : ℕ) → named ≡ view_named text → entry text ≡ Some (Some view) → LooksUp program named (View view)
  found_view view is e = (
    defined_as (view_named text) is (names.views.known text (is_some (Some view) e)),
    (text, is, names.views.only view text e),
    λ other name named_is creates.
        same other (ap (λ (t : List ℕ). entry t) (same_view text name (sym is ∙ named_is)) ∙ names.views.there other name creates),
  )
    where
      same : (other : ℕ) → entry text ≡ Some (Some other) → other ≡ view
      same other h = pair (sym h ∙ e)
        where
          pair : ◌≡◌ {A = Option (Option ℕ)} (Some (Some other)) (Some (Some view)) → other ≡ view
          pair q = cc

  pub found_document : named ≡ view_named text → entry text ≡ Some None → LooksUp program named Other
  found_document is e = (
    defined_as (view_named text) is (names.views.known text (is_some None e)),
    λ view name named_is creates.
        nothing view (sym e ∙ ap (λ (t : List ℕ). entry t) (same_view text name (sym is ∙ named_is)) ∙ names.views.there view name creates),
  )
    where
      nothing : (view : ℕ) → ◌≡◌ {A = Option (Option ℕ)} (Some None) (Some (Some view)) → ⊥
      nothing view q = cc

  pub found_no_view : named ≡ view_named text → entry text ≡ None → LooksUp program named Nothing
  found_no_view is e = λ at. names.views.unknown text e (subst (λ (n : Named). IsDefined program n) is at)

  pub found_dictionary : (view : ℕ) → named ≡ dictionary_named text → there text ≡ Some view → LooksUp program named Other
  found_dictionary view is e = (
    defined_as (dictionary_named text) is (names.dictionaries.known text (subst (λ (o : Option ℕ). IsSome o) (sym e) refl)),
    λ view name named_is creates. apart text name (sym is ∙ named_is),
  )

  pub found_no_dictionary : named ≡ dictionary_named text → there text ≡ None → LooksUp program named Nothing
  found_no_dictionary is e = λ at. names.dictionaries.unknown text e (subst (λ (n : Named). IsDefined program n) is at)

module _ (program : List Statement) where
  -- no name
  pub no_views : AreViewsNamed program [] []
  no_views = record {
    defined = λ k d below. absurd (omega arith);
    only = λ view at. absurd (omega (arith, at.1));
    each = λ view name at creates. absurd (omega (arith, at.1));
  }

  module _ (names : List Named) (named : Named) (views : List ℕ) (before : AreViewsNamed program names views) where
    -- one more that is a view of the program
    pub with_view : (view : ℕ) → LooksUp program named (View view) → AreViewsNamed program (names ++ named ∷ []) (views ++ view ∷ [])
    with_view view found = record {
      defined = All-push (IsDefined program) names named before.defined found.0;
      only = λ other at. ⊎_elim
          (λ old. let h = before.only other old in (h.0, Contains-append_left names (named ∷ []) (view_named h.0) h.1, h.2))
          (λ same. (found.1.0, subst (λ (n : Named). Contains (names ++ named ∷ []) n) found.1.1 (Contains-push names named), subst (λ (p : ℕ). CreatesView program p found.1.0) same found.1.2))
          (Contains-push_cases views view other at);
      each = λ other name at creates. ⊎_elim
          (λ old. Contains-append_left views (view ∷ []) other (before.each other name old creates))
          (λ same. subst (λ (p : ℕ). Contains (views ++ view ∷ []) p) (sym (found.2 other name same creates)) (Contains-push views view))
          (Contains-push_cases names named (view_named name) at);
    }

    -- one more that is none
    pub with_other : LooksUp program named Other → AreViewsNamed program (names ++ named ∷ []) views
    with_other found = record {
      defined = All-push (IsDefined program) names named before.defined found.0;
      only = λ other at. let h = before.only other at in (h.0, Contains-append_left names (named ∷ []) (view_named h.0) h.1, h.2);
      each = λ other name at creates. ⊎_elim
          (λ old. before.each other name old creates)
          (λ same. absurd (found.1 other name same creates))
          (Contains-push_cases names named (view_named name) at);
    }

    -- one more that is unknown
    pub mentions_undefined : (number : ℕ) (later all : List Named) (fault : NameFault) → LooksUp program named Nothing → names ++ named ∷ later ≡ all → Unknown number named fault → MentionsUndefined program number all fault
    mentions_undefined number later all fault found split is = record {
      earlier = names;
      named = named;
      later = later;
      split = sym split;
      undefined = found;
      first = before.defined;
      is = is;
    }

  -- the first statement that looks an unknown name up has the program's fault
  pub undefined_fault : (before after : List Statement) (s : Statement) (number : ℕ) (fault : NameFault) → program ≡ before ++ s ∷ after → number ≡ length before + 1 → AllDiffer (names_defined program)
      → All (IsDefined program) (names_looked_up before) → MentionsUndefined program number (looked_up_by s) fault → IsNameFault program fault
  undefined_fault before after s number fault split number_is distinct defined found = by found.named found.split found.undefined found.is
    where
      unknown : (named : Named) → looked_up_by s ≡ found.earlier ++ named ∷ found.later → ¬ (IsDefined program named) → LooksUpUndefined program number named
      unknown named is undefined = record {
        before = before;
        statement = s;
        numbered = record { after = after; split = split; number_is = number_is };
        earlier = found.earlier;
        later = found.later;
        looks_up = is;
        undefined = undefined;
        first = All-append (IsDefined program) (names_looked_up before) found.earlier defined found.first;
      }

      by : (named : Named) → looked_up_by s ≡ found.earlier ++ named ∷ found.later → ¬ (IsDefined program named) → Unknown number named fault → IsNameFault program fault
      by (view_named name) is undefined fault_is = subst (λ (f : NameFault). IsNameFault program f) (sym fault_is) (distinct, unknown (view_named name) is undefined)
      by (dictionary_named name) is undefined fault_is = subst (λ (f : NameFault). IsNameFault program f) (sym fault_is) (distinct, unknown (dictionary_named name) is undefined)

-- the query of a view uses what it names
pub used_by_view : (program : List Statement) (s : Statement) (name : Name) (query : Query) (views : List ℕ) (names : List Named) → s ≡ create name query → names ≡ names_in_query query
    → AreViewsNamed program names views → AreViewsUsed program s views
used_by_view program s name query views names is names_is found =
    let looked : AreViewsNamed program (names_in_query query) views = subst (λ (ns : List Named). AreViewsNamed program ns views) names_is found in
    subst (λ (s : Statement). AreViewsUsed program s views) (sym is) (record { looked_up = looked.defined; used = looked })

-- one more statement
pub graph_more : (program : List Statement) (n : ℕ) (uses new : List (List ℕ)) (used : List ℕ) → n < length program → IsUseGraph program n uses → AreViewsUsed program (statement_at program n) used
    → new ≡ uses ++ used ∷ [] → IsUseGraph program (n + 1) new
graph_more program n uses new used within graph found is = subst (λ (all : List (List ℕ)). IsUseGraph program (n + 1) all) (sym is) (record {
  length_is = omega (arith, length_push uses used, graph.length_is);
  looked_up = subst (λ (names : List Named). All (IsDefined program) names)
      (sym (ap names_looked_up (take_more program n require within) ∙ flat_map-push looked_up_by (take n program) (statement_at program n)))
      (All-append (IsDefined program) (names_looked_up (take n program)) (looked_up_by (statement_at program n)) graph.looked_up found.looked_up);
  used = λ view below. by view (cases_order view n) below;
})
  where
    at : (view : ℕ) (views : List ℕ) → get_or (uses ++ used ∷ []) view [] ≡ views → AreViewsNamed program (names_used_by (statement_at program view)) views
        → AreViewsNamed program (names_used_by (statement_at program view)) (get_or (uses ++ used ∷ []) view [])
    at view views same is = subst (λ (ps : List ℕ). AreViewsNamed program (names_used_by (statement_at program view)) ps) (sym same) is

    by : (view : ℕ) → (view ≡ n) ⊎ ((view < n) ⊎ (n < view)) → view < n + 1 → AreViewsNamed program (names_used_by (statement_at program view)) (get_or (uses ++ used ∷ []) view [])
    by view (inl same) below =
        at view used (get_or_push uses used [] view (graph.length_is ∙ sym same)) (subst (λ (p : ℕ). AreViewsNamed program (names_used_by (statement_at program p)) used) (sym same) found.used)
    by view (inr (inl before)) below =
        at view (get_or uses view []) (get_or_append_left uses (used ∷ []) [] view (omega (arith, graph.length_is))) (graph.used view before)
    by view (inr (inr past)) below = absurd (omega arith)
