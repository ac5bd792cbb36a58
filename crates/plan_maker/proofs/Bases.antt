-- The nodes of the views, one view after another, and of the outputs.
use Rattle.std.proofs.Common.{◌≡◌, ◌∙◌, ℕ, zero, suc, ◌+◌, ◌*◌, ◌<◌, ◌≤◌, inl, inr, List, [], ◌∷◌, ◌++◌, length, map, get_or, drop, refl, sym, ap, ap₂, subst, arith, Option, Some, None}
use Rattle.std.specs.List.{All, AllZip, sum_by}
use Rattle.std.specs.Prelude.{◌⊎◌, IfSome}
use Rattle.std.proofs.lemmas.Bool.{cases_lt}
use Rattle.std.proofs.lemmas.List.{length-append, get_or_append_left, get_or_at, get_or-map, length-map}
use Rattle.std.proofs.lemmas.List.Elements.{All-head, All-tail, All-map, All-weaker}
use Rattle.std.proofs.lemmas.Simd.{map-map}
use Rattle.std.proofs.Math.Seq.{drop-cons}
use Rattle.aql_base.specs.Bags.{SameBag}
use Rattle.span_token.specs.Documents.{Doc}
use Rattle.row_values.specs.Outputs.{HasDistinctNames}
use Rattle.scalar_ops.specs.Tables.{Lists}
use Rattle.aql_typed.specs.declared.tree.Output.{Output}
use Rattle.aql_typed.specs.declared.tree.TypedView.{TypedView}
use Rattle.aql_typed.specs.Fitting.{AllFit, width_of, widths_from, widths_of}
use Rattle.aql_typed.specs.Meaning.{Rows, document_rows, meaning_of, meanings_from, meanings, output_rows}
use Rattle.aql_typed.specs.Programs.{AreTypedViews, AreTypedOutputs, NamesView, column_names, columns_shown, names_of}
use Rattle.aql_typed.specs.Trees.{Query}
use Rattle.aql_typed.specs.Views.{body_of}
use Rattle.algebra.specs.declared.node.Node.{Node}
use Rattle.algebra.specs.declared.output.PlanOut.{PlanOut}
use Rattle.algebra.specs.declared.shape.Shape.{Shape}
use Rattle.algebra.specs.FoldLaws.{length-each}
use Rattle.algebra.specs.Growth.{Grows}
use Rattle.algebra.specs.Plans.{Parts, IsOutput, AreOutputs}
use Rattle.algebra.specs.Shapes.{shape_by, no_shape, shapes_of, IsOpen}
use Rattle.plan_maker.specs.declared.below.Below.{Below}
use Rattle.plan_maker.specs.Grounds.{Gives, IsBase, IsWell, CanRead, QueryFits, node_shown, output_shown}
use Rattle.plan_maker.specs.Lowered.{Program, ShowsOutput, IsLoweredForm, query_size, IsLowered}
use Rattle.plan_maker.proofs.Giving.{gives-grown, gives-is, gives-width}

-- ---- a base stays one

pub base-grown : (old new : List Node) (below : Below) (widths : List ℕ) (means : Lists → Doc → List Rows) → Grows old new → IsBase old below widths means → IsBase new below widths means
base-grown old new below widths means grows base = record {
  document = gives-grown old new _ _ _ grows base.document;
  each = λ i h. gives-grown old new _ _ _ grows (base.each i h);
  long = base.long;
  counted = base.counted;
}

abbrev pub well-grown : (old new : List Node) (below : Below) (Wants Others : List ℕ → Type 0) → Grows old new → (well : IsWell old below Wants) → Others well.widths → IsWell new below Others
well-grown old new below Wants Others grows well others = record {
  widths = well.widths;
  means = well.means;
  base = base-grown old new below well.widths well.means grows well.base;
  wanted = others;
}

-- ---- one view more

-- before the first view there is the document
pub base-none : (nodes : List Node) (below : Below) → below.views.items ≡ [] → Gives nodes below.document 1 (λ lists doc. document_rows lists doc) → IsBase nodes below [] (λ lists doc. [])
base-none nodes below none document = record {
  document = document;
  each = λ i h. absurd (omega (arith, h));
  long = ap length none;
  counted = λ lists doc. refl;
}

module _ (nodes : List Node) (below after : Below) (widths : List ℕ) (means : Lists → Doc → List Rows) (n w : ℕ) (rows : Lists → Doc → Rows)
    (same : after.document ≡ below.document) (put : after.views.items ≡ below.views.items ++ n ∷ []) (base : IsBase nodes below widths means) (gives : Gives nodes n w rows) where
  abbrev at : ℕ → List ℕ → List ℕ → (Lists → Doc → List Rows) → Type 0
  at i numbers ws ms = Gives nodes (get_or numbers i 0) (get_or ws i 0) (λ lists doc. get_or (ms lists doc) i [])

  -- three numbers and words that are those of a view
  is_given : (k m v u : ℕ) (f g : Lists → Doc → Rows) → k ≡ m → v ≡ u → ((lists : Lists) (doc : Doc) → f lists doc ≡ g lists doc) → Gives nodes m u g → Gives nodes k v f
  is_given k m v u f g numbers wide are given =
      subst (λ (x : ℕ). Gives nodes x v f) (sym numbers) (gives-width nodes m u v f (sym wide) (gives-is nodes m u g f (λ lists doc. sym (are lists doc)) given))

  each_more : (i : ℕ) → i < length (widths ++ w ∷ []) → at i (below.views.items ++ n ∷ []) (widths ++ w ∷ []) (λ lists doc. means lists doc ++ rows lists doc ∷ [])
  each_more i h = by (cases_lt i (length widths))
    where
      by : (i < length widths) ⊎ (length widths ≤ i) → at i (below.views.items ++ n ∷ []) (widths ++ w ∷ []) (λ lists doc. means lists doc ++ rows lists doc ∷ [])
      by (inl before) =
          is_given _ _ _ _ _ _
          (get_or_append_left below.views.items (n ∷ []) 0 i (omega (arith, before, base.long)))
          (get_or_append_left widths (w ∷ []) 0 i before)
          (λ lists doc. get_or_append_left (means lists doc) (rows lists doc ∷ []) [] i (omega (arith, before, base.counted lists doc)))
          (base.each i before)
      by (inr last) =
          let is : length widths ≡ i = omega (arith, last, h, length-append widths (w ∷ [])) in
          is_given _ _ _ _ _ _
          (get_or_at below.views.items n [] 0 i (omega (arith, is, base.long)))
          (get_or_at widths w [] 0 i is)
          (λ lists doc. get_or_at (means lists doc) (rows lists doc) [] [] i (omega (arith, is, base.counted lists doc)))
          gives

  pub base-push : IsBase nodes after (widths ++ w ∷ []) (λ lists doc. means lists doc ++ rows lists doc ∷ [])
  base-push = record {
    document = subst (λ (k : ℕ). Gives nodes k 1 (λ lists doc. document_rows lists doc)) (sym same) base.document;
    each = λ i h. subst (λ (numbers : List ℕ). at i numbers (widths ++ w ∷ []) (λ lists doc. means lists doc ++ rows lists doc ∷ [])) (sym put) (each_more i h);
    long = omega (arith, ap length put, length-append below.views.items (n ∷ []), length-append widths (w ∷ []), base.long);
    counted = λ lists doc. omega (arith, length-append (means lists doc) (rows lists doc ∷ []), length-append widths (w ∷ []), base.counted lists doc);
  }

-- other words for what the views mean
base-means : (nodes : List Node) (below : Below) (widths : List ℕ) (means others : Lists → Doc → List Rows) → ((lists : Lists) (doc : Doc) → means lists doc ≡ others lists doc) → IsBase nodes below widths means → IsBase nodes below widths others
base-means nodes below widths means others are base = record {
  document = base.document;
  each = λ i h. gives-is nodes _ _ _ _ (λ lists doc. ap (λ (ms : List Rows). get_or ms i []) (are lists doc)) (base.each i h);
  long = base.long;
  counted = λ lists doc. sym (ap length (are lists doc)) ∙ base.counted lists doc;
}

-- the views so far have their nodes, and the others stand on them
pub record IsPart (nodes : List Node) (below : Below) (bodies left : List Query) : Type 0 where
  pub widths : List ℕ
  pub means : Lists → Doc → List Rows
  pub base : IsBase nodes below widths means
  pub rest : widths_from widths left ≡ widths_of bodies
  pub same : (lists : Lists) (doc : Doc) → meanings_from lists doc (means lists doc) left ≡ meanings lists doc bodies
  pub fit : AllFit widths left

pub part-none : (nodes : List Node) (below : Below) (bodies : List Query) → below.views.items ≡ [] → Gives nodes below.document 1 (λ lists doc. document_rows lists doc) → AllFit [] bodies → IsPart nodes below bodies bodies
part-none nodes below bodies none document fit = record {
  widths = [];
  means = λ lists doc. [];
  base = base-none nodes below none document;
  rest = refl;
  same = λ lists doc. refl;
  fit = fit;
}

-- a view more
module _ (old : List Node) (below : Below) (bodies left rest : List Query) (body : Query) (are : left ≡ body ∷ rest) (part : IsPart old below bodies left) where
  pub left_fit : AllFit part.widths (body ∷ rest)
  left_fit = subst (AllFit part.widths) are part.fit

  abbrev pub next-well : IsWell old below (QueryFits body)
  next-well = record { widths = part.widths; means = part.means; base = part.base; wanted = left_fit.0 }

  pub part-next : (new : List Node) (after : Below) (n : ℕ) → Grows old new → after.document ≡ below.document → after.views.items ≡ below.views.items ++ n ∷ []
      → ((well : IsWell old below (QueryFits body)) → Gives new n (width_of well.widths body) (λ lists doc. meaning_of lists doc (well.means lists doc) body))
      → IsPart new after bodies rest
  part-next new after n grows same put given = record {
    widths = part.widths ++ width_of part.widths body ∷ [];
    means = λ lists doc. part.means lists doc ++ meaning_of lists doc (part.means lists doc) body ∷ [];
    base = base-push new below after part.widths part.means n (width_of part.widths body) (λ lists doc. meaning_of lists doc (part.means lists doc) body) same put
        (base-grown old new below part.widths part.means grows part.base) (given next-well);
    rest = ap (widths_from part.widths) (sym are) ∙ part.rest;
    same = λ lists doc. ap (meanings_from lists doc (part.means lists doc)) (sym are) ∙ part.same lists doc;
    fit = left_fit.1;
  }

-- all views
pub part-all : (nodes : List Node) (below : Below) (bodies left : List Query) → left ≡ [] → IsPart nodes below bodies left → IsBase nodes below (widths_of bodies) (λ lists doc. meanings lists doc bodies)
part-all nodes below bodies left none part =
    subst (λ (ws : List ℕ). IsBase nodes below ws (λ lists doc. meanings lists doc bodies)) (ap (widths_from part.widths) (sym none) ∙ part.rest)
    (base-means nodes below part.widths part.means (λ lists doc. meanings lists doc bodies) (λ lists doc. ap (meanings_from lists doc (part.means lists doc)) (sym none) ∙ part.same lists doc) part.base)

-- the bodies that are left
pub bodies_left : (views : List TypedView) (i : ℕ) (v : TypedView) → i < length views → v ≡ get_or views i v → map body_of (drop i views) ≡ body_of v ∷ map body_of (drop (i + 1) views)
bodies_left views i v below is =
    let one : i + 1 ≡ suc i = omega arith in
    ap (map body_of) (drop-cons views i v below)
    ∙ (ap (λ (x : TypedView). body_of x ∷ map body_of (drop (suc i) views)) (sym is)
    ∙ ap (λ (k : ℕ). body_of v ∷ map body_of (drop k views)) (sym one))

-- ---- outputs

module _ (nodes : List Node) (below : Below) (views : List TypedView) (valid : AreTypedViews views)
    (base : IsBase nodes below (widths_of (map body_of views)) (λ lists doc. meanings lists doc (map body_of views))) where
  number : length (widths_of (map body_of views)) ≡ length views
  number = ap length (sym valid.columns) ∙ length-map views (λ (v : TypedView). length (column_names v))

  -- the width of what an output shows, and its rows
  abbrev width_shown : Option ℕ → ℕ
  width_shown None = 1
  width_shown (Some n) = get_or (widths_of (map body_of views)) n 0

  shown_gives : (view : Option ℕ) → IfSome view (λ n. n < length views) → Gives nodes (node_shown below view) (width_shown view) (λ lists doc. output_rows lists doc (map body_of views) view)
  shown_gives None there = base.document
  shown_gives (Some n) there = base.each n (omega (arith, there, number))

  columns_wide : (view : Option ℕ) → IfSome view (λ n. n < length views) → length (columns_shown views view) ≡ width_shown view
  columns_wide None there = refl
  columns_wide (Some n) there =
      sym (get_or-map length (map column_names views) n [] 0 (omega (arith, there, length-map views column_names)))
      ∙ (ap (λ (ns : List ℕ). get_or ns n 0) (map-map length column_names views) ∙ ap (λ (ns : List ℕ). get_or ns n 0) valid.columns)

  one_output : (out : Output) → NamesView (length views) out → IsOutput (shapes_of nodes) (output_shown views below out)
  one_output out named =
      let gives = shown_gives out.view named in
      record {
        there = omega (arith, gives.has.there, length-each no_shape shape_by nodes);
        shown = subst (λ (shape : Shape). IsOpen shape) (sym gives.has.shaped) gives.readable;
        columns = columns_wide out.view named ∙ (sym gives.wide ∙ ap (λ (shape : Shape). shape.width) (sym gives.has.shaped));
      }

  names_kept : (outs : List Output) → map (λ out. out.names.name) (map (output_shown views below) outs) ≡ map (λ out. out.name) outs
  names_kept [] = refl
  names_kept (out ∷ outs) = ap (λ (names : List (List ℕ)). out.name ∷ names) (names_kept outs)

  -- the plan may have these outputs
  pub outputs_valid : (outs : List Output) → AreTypedOutputs (length views) outs → AreOutputs nodes (map (output_shown views below) outs)
  outputs_valid outs are = record {
    each = All-map (IsOutput (shapes_of nodes)) (output_shown views below) outs
        (All-weaker (NamesView (length views)) (λ out. IsOutput (shapes_of nodes) (output_shown views below out)) one_output outs are.named);
    distinct = subst HasDistinctNames (sym (names_kept outs)) are.distinct;
  }

  module _ (program : Program) (plan : Parts) (views_are : program.0 ≡ views) (lists_are : plan.lists ≡ program.1.0) (nodes_are : plan.nodes ≡ nodes) where
    one_shown : (out : Output) → NamesView (length views) out → ShowsOutput program plan out (output_shown views below out)
    one_shown out named = record {
      names = ap (λ (vs : List TypedView). names_of vs out) (sym views_are);
      rows = λ doc. rw (lists_are, nodes_are, views_are) ((shown_gives out.view named).has.same program.1.0 doc);
    }

    all_shown : (outs : List Output) → All (NamesView (length views)) outs → AllZip (ShowsOutput program plan) outs (map (output_shown views below) outs)
    all_shown [] all = tt
    all_shown (out ∷ outs) all = (one_shown out (All-head (NamesView (length views)) out outs all), all_shown outs (All-tail (NamesView (length views)) out outs all))

    -- and shows what the program means
    pub is_lowered : AreTypedOutputs (length views) program.1.1 → plan.outputs ≡ map (output_shown views below) program.1.1
        → All IsLoweredForm nodes → length nodes ≤ 1 + 8 * sum_by query_size (map body_of views) → IsLowered program plan
    is_lowered are shown forms few = record {
      lists = lists_are;
      outputs = subst (AllZip (ShowsOutput program plan) program.1.1) (sym shown) (all_shown program.1.1 are.named);
      forms = subst (All IsLoweredForm) (sym nodes_are) forms;
      few = rw (nodes_are, views_are) few;
    }
