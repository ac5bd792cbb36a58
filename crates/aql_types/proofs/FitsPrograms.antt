-- A program without a fault: what `Typed` asks of its views and outputs.
use Rattle.std.proofs.Common.{◌≡◌, ◌∙◌, ℕ, suc, List, [], ◌∷◌, ◌++◌, map, flat_map, length, All, refl, ap, sym, subst, arith}
use Rattle.std.proofs.lemmas.List.{length-map, map-append, append_assoc, append-nil}
use Rattle.std.proofs.lemmas.List.Elements.{All-nil, All-cons}
use Rattle.aql_syntax.specs.Trees.{Statement, create}
use Rattle.view_graph.specs.Answers.{HasOutputs}
use Rattle.view_graph.specs.Uses.{statement_numbered}
use Rattle.aql_typed.specs.Fitting.{width_of, Fits, AllFit, widths_from, widths_of}
use Rattle.aql_typed.specs.Programs.{column_names, AreTypedViews, AreTypedOutputs}
use Rattle.aql_typed.specs.Trees as tree
use Rattle.aql_typed.specs.Views.{body_of}
use Rattle.aql_typed.specs.declared.tree.Output.{Output}
use Rattle.aql_typed.specs.declared.tree.TypedView.{TypedView}
use Rattle.clause_types.specs.Known.{Known}
use Rattle.aql_types.specs.Programs.{ViewTyping, fault_in, typing_of_statement, typings_from, faults_of_program, views_of_program, outputs_of_program, view_seen}
use Rattle.aql_types.specs.Queries.{View, typing_of_query}
use Rattle.aql_types.specs.declared.fault.TypeFault.{TypeFault}
use Rattle.clause_types.specs.FaultlessLaws.{both_none, map_none}
use Rattle.aql_types.proofs.FitsOutputs.{outputs_typed}
use Rattle.aql_types.proofs.FitsQueries.{widths_in, AreNamed, query_fits, query_named}

abbrev pub bodies_in : List View → List tree.Query
bodies_in views = map (λ v. v.body) views

-- a view fits above others, and has as many columns as its body gives
abbrev pub IsViewFit : List ℕ → View → Type 0
IsViewFit widths v = Fits widths v.body × (width_of widths v.body ≡ length v.columns)

module _ (known : Known) where
  -- a statement's view above those below
  view_fits : (below : List View) (number : ℕ) (statement : Statement) → (typing_of_statement known below number statement).faults ≡ []
      → IsViewFit (widths_in below) (typing_of_statement known below number statement).view
  view_fits below number (create name query) h =
      query_fits known below (widths_in below) refl query (map_none (fault_in number) (typing_of_query known below query).faults h)
  view_fits below number statement h = (tt, refl)

  view_named : (below : List View) (number : ℕ) (statement : Statement) → (typing_of_statement known below number statement).faults ≡ []
      → AreNamed (typing_of_statement known below number statement).view.columns
  view_named below number (create name query) h =
      query_named known below query (map_none (fault_in number) (typing_of_query known below query).faults h)
  view_named below number statement h = λ i j d less within. absurd (omega (arith, within))

  module _ (program : List Statement) where
    abbrev views_from : List View → List ℕ → List View
    views_from below numbers = map (λ t. t.view) (typings_from known program below numbers)

    abbrev faults_from : List View → List ℕ → List TypeFault
    faults_from below numbers = flat_map (λ t. t.faults) (typings_from known program below numbers)

    abbrev typing_at : List View → ℕ → ViewTyping
    typing_at below number = typing_of_statement known below number (statement_numbered program number)

    -- the widths with one more view's
    next_widths : (below : List View) (v : View) → width_of (widths_in below) v.body ≡ length v.columns
        → widths_in below ++ width_of (widths_in below) v.body ∷ [] ≡ widths_in (below ++ v ∷ [])
    next_widths below v is =
        ap (λ n. widths_in below ++ n ∷ []) is ∙ sym (map-append (λ (w : View). length w.columns) below (v ∷ []))

    views_fit : (below : List View) (numbers : List ℕ) → faults_from below numbers ≡ [] → AllFit (widths_in below) (bodies_in (views_from below numbers))
    views_fit below [] h = tt
    views_fit below (number ∷ numbers) h =
        let t = typing_at below number in
        let p = both_none t.faults (faults_from (below ++ t.view ∷ []) numbers) h in
        let fit = view_fits below number (statement_numbered program number) p.0 in (
          fit.0,
          subst (λ (widths : List ℕ). AllFit widths (bodies_in (views_from (below ++ t.view ∷ []) numbers))) (sym (next_widths below t.view fit.1))
              (views_fit (below ++ t.view ∷ []) numbers p.1),
        )

    views_wide : (below : List View) (numbers : List ℕ) → faults_from below numbers ≡ []
        → widths_from (widths_in below) (bodies_in (views_from below numbers)) ≡ widths_in below ++ widths_in (views_from below numbers)
    views_wide below [] h = sym (append-nil (widths_in below))
    views_wide below (number ∷ numbers) h =
        let t = typing_at below number in
        let more = views_from (below ++ t.view ∷ []) numbers in
        let p = both_none t.faults (faults_from (below ++ t.view ∷ []) numbers) h in
        let fit = view_fits below number (statement_numbered program number) p.0 in
        ap (λ (widths : List ℕ). widths_from widths (bodies_in more)) (next_widths below t.view fit.1)
        ∙ (views_wide (below ++ t.view ∷ []) numbers p.1
        ∙ (ap (λ (widths : List ℕ). widths ++ widths_in more) (map-append (λ (w : View). length w.columns) below (t.view ∷ []))
        ∙ append_assoc (widths_in below) (length t.view.columns ∷ []) (widths_in more)))

    views_named : (below : List View) (numbers : List ℕ) → faults_from below numbers ≡ [] → All (λ (v : View). AreNamed v.columns) (views_from below numbers)
    views_named below [] h = All-nil (λ (v : View). AreNamed v.columns)
    views_named below (number ∷ numbers) h =
        let t = typing_at below number in
        let p = both_none t.faults (faults_from (below ++ t.view ∷ []) numbers) h in
        All-cons (λ (v : View). AreNamed v.columns) t.view (views_from (below ++ t.view ∷ []) numbers)
        (view_named below number (statement_numbered program number) p.0)
        (views_named (below ++ t.view ∷ []) numbers p.1)

    module _ (order : List ℕ) (none : faults_of_program known program order ≡ []) where
      -- the views of a program without a fault fit, each above those before it
      pub program_fits : AllFit [] (bodies_in (views_of_program known program order))
      program_fits = views_fit [] order none

      -- each has as many columns as its body gives
      pub program_wide : widths_in (views_of_program known program order) ≡ widths_of (bodies_in (views_of_program known program order))
      program_wide = sym (views_wide [] order none)

      -- and no two columns of one name
      pub program_named : All (λ (v : View). AreNamed v.columns) (views_of_program known program order)
      program_named = views_named [] order none

-- the views of the code
bodies_seen : (views : List TypedView) → map body_of views ≡ bodies_in (map view_seen views)
bodies_seen [] = refl
bodies_seen (v ∷ views) = ap (λ rest. body_of v ∷ rest) (bodies_seen views)

widths_seen : (views : List TypedView) → map (λ v. length (column_names v)) views ≡ widths_in (map view_seen views)
widths_seen [] = refl
widths_seen (v ∷ views) =
    ap (λ n. n ∷ map (λ (w : TypedView). length (column_names w)) views) (length-map v.columns.items _)
    ∙ ap (λ rest. length v.columns.items ∷ rest) (widths_seen views)

named_seen : (views : List TypedView) → All (λ (v : View). AreNamed v.columns) (map view_seen views) → All (λ (v : TypedView). AreNamed v.columns.items) views
named_seen [] all = All-nil (λ (v : TypedView). AreNamed v.columns.items)
named_seen (v ∷ views) all =
    All-cons (λ (w : TypedView). AreNamed w.columns.items) v views
    (all 0 (view_seen v) (omega arith))
    (named_seen views (λ k d below. all (suc k) d (omega (arith, below))))

module _ (known : Known) (program : List Statement) (order : List ℕ) (none : faults_of_program known program order ≡ [])
    (views : List TypedView) (are : map view_seen views ≡ views_of_program known program order) where
  -- what `Typed` asks of the views
  pub typed_views : AreTypedViews views
  typed_views =
      let bodies : map body_of views ≡ bodies_in (views_of_program known program order) = bodies_seen views ∙ ap bodies_in are in
      record {
        fit = subst (λ (bs : List tree.Query). AllFit [] bs) (sym bodies) (program_fits known program order none);
        columns =
            widths_seen views
            ∙ (ap widths_in are
            ∙ (program_wide known program order none
            ∙ sym (ap (λ (bs : List tree.Query). widths_of bs) bodies)));
        distinct =
            named_seen views
            (subst (λ (vs : List View). All (λ (v : View). AreNamed v.columns) vs) (sym are) (program_named known program order none));
      }

  -- what `Typed` asks of the outputs
  pub typed_outputs : HasOutputs program → (outputs : List Output) → outputs ≡ outputs_of_program (views_of_program known program order) program
      → AreTypedOutputs (length views) outputs
  typed_outputs has outputs is =
      let long : length (views_of_program known program order) ≡ length views = sym (ap (λ (vs : List View). length vs) are) ∙ length-map views view_seen in
      subst (λ (outs : List Output). AreTypedOutputs (length views) outs) (sym is)
      (subst (λ (n : ℕ). AreTypedOutputs n (outputs_of_program (views_of_program known program order) program)) long
      (outputs_typed (views_of_program known program order) program has.outputs_distinct))

  -- both
  pub typed_program : HasOutputs program → (outputs : List Output) → outputs ≡ outputs_of_program (views_of_program known program order) program
      → AreTypedViews views × AreTypedOutputs (length views) outputs
  typed_program has outputs is = (typed_views, typed_outputs has outputs is)
