-- The answers of an evaluation: what is known of outputs on a page, and of documents one by one.
use Rattle.std.proofs.Common.{◌≡◌, inl, inr, ℕ, ◌<◌, ◌+◌, List, [], ◌∷◌, ◌++◌, length, get_or, take, map, refl, sym, ap, subst, ◌∙◌, arith, Option, Some, None}
use Rattle.std.specs.Prelude.{IsSome, option_map, slice_get, All}
use Rattle.std.specs.List.{AllZip}
use Rattle.std.proofs.lemmas.List.{map_push, take_all, take_more}
use Rattle.std.proofs.lemmas.List.Elements.{All-head, All-more, All-tail, All-weaker}
use Rattle.std.proofs.lemmas.Option.{none-some, same_Some, get_or_from_slice_get, slice_get_cases}
use Rattle.span_token.specs.Documents.{Doc as Document}
use Rattle.row_values.specs.Rows.{RowList}
use Rattle.algebra.specs.declared.output.PlanOut.{PlanOut}
use Rattle.algebra.specs.FoldLaws.{length-each}
use Rattle.algebra.specs.Items.{HasInput, item_at}
use Rattle.algebra.specs.Plans.{Parts, AreOutputs}
use Rattle.algebra.specs.Shapes.{shape_by, no_shape}
use Rattle.run_core.specs.Histories.{IsReached}
use Rattle.run_core.specs.Promises.{IsSound}
use Rattle.run_tables.specs.Items.{ItemRows}
use Rattle.worker_pool.specs.Evaluations.{Evaluated, AreAnswers, AreOutputRows, IsEvaluation}
use Rattle.worker_pool.specs.Filling.{IsAnswerOn, IsFilledTo}
use Rattle.worker_pool.specs.Pages.{known_at, rows_on, AreKnown, IsPage, KnowsMore}
use Rattle.worker_pool.proofs.Boarding.{complete-filled}
use Rattle.worker_pool.proofs.Paging.{document_at, result-has}

zip_push : {A B : Type 0} (R : A → B → Type 0) (xs : List A) (ys : List B) (x : A) (y : B) → AllZip R xs ys → R x y → AllZip R (xs ++ x ∷ []) (ys ++ y ∷ [])
zip_push R [] [] x y are here = (here, tt)
zip_push R [] (z ∷ ys) x y are here = absurd are
zip_push R (z ∷ xs) [] x y are here = absurd are
zip_push R (v ∷ xs) (z ∷ ys) x y are here = (are.0, zip_push R xs ys x y are.1 here)

-- two lists go together for one element more
zip_more : {A B : Type 0} (R : A → B → Type 0) (xs : List A) (ys : List B) (i : ℕ) (x : A) (y : B) → i < length xs → x ≡ get_or xs i x → AllZip R (take i xs) ys → R x y
    → AllZip R (take (i + 1) xs) (ys ++ y ∷ [])
zip_more {A = A} {B = B} R xs ys i x y below is before here =
    subst (λ (zs : List A). AllZip R zs (ys ++ y ∷ [])) (sym (take_more xs i x below)) (zip_push R (take i xs) ys (get_or xs i x) y before (subst (λ (z : A). R z y) is here))

-- the nodes of outputs are among a plan's
outputs_there : (plan : Parts) → AreOutputs plan.nodes plan.outputs → All (λ (out : PlanOut). out.node < length plan.nodes) plan.outputs
outputs_there plan valid = λ i d below. omega (arith, (valid.each i d below).there, length-each no_shape shape_by plan.nodes)

-- one output more is known
pub known-more : (old new : List (Option ItemRows)) (outs : List PlanOut) (i : ℕ) → i < length outs → AreKnown old (take i outs) → KnowsMore old new
    → ((out : PlanOut) → IsSome (known_at new (get_or outs i out).node)) → AreKnown new (take (i + 1) outs)
known-more old new outs i below all more here = λ k d within.
    All-more (λ (out : PlanOut). IsSome (known_at new out.node)) outs i d below
    (All-weaker (λ (out : PlanOut). IsSome (known_at old out.node)) (λ (out : PlanOut). IsSome (known_at new out.node)) (λ out there. more out.node there) (take i outs) all)
    (here d) k d within

-- an output among those that are known
module _ (known : List (Option ItemRows)) (outs : List PlanOut) (i n : ℕ) where
  pub known-at : i < length outs → AreKnown known outs → ((out : PlanOut) → n ≡ (get_or outs i out).node) → IsSome (known_at known n)
  known-at below all is = elim (slice_get_cases outs i).1 [
    | inl found ↦ subst (λ (m : ℕ). IsSome (known_at known m)) (sym (is found.0)) (all i found.0 below)
    | inr past ↦ absurd (omega (arith, below, past.0))
  ]

  abbrev shows : PlanOut → RowList → Type 0
  shows out list = rows_on known out.node ≡ Some list

  -- the rows of one output more are shown
  pub shown-pushed : {V : Type 0} (old new : List V) (rows : V) (f : V → RowList) → i < length outs → ((out : PlanOut) → n ≡ (get_or outs i out).node) → new ≡ old ++ rows ∷ []
      → rows_on known n ≡ Some (f rows) → AllZip shows (take i outs) (map f old) → AllZip shows (take (i + 1) outs) (map f new)
  shown-pushed old new rows f below is put here before = elim (slice_get_cases outs i).1 [
    | inl found ↦ subst (AllZip shows (take (i + 1) outs)) (sym (ap (map f) put ∙ map_push f old rows))
        (zip_more shows outs (map f old) i found.0 (f rows) below (sym (get_or_from_slice_get outs i found.0 found.0 found.2)) before
        (subst (λ (m : ℕ). rows_on known m ≡ Some (f rows)) (is found.0 ∙ ap (λ (out : PlanOut). out.node) (get_or_from_slice_get outs i found.0 found.0 found.2)) here))
    | inr past ↦ absurd (omega (arith, below, past.0))
  ]

-- rows of outputs that are known are what the outputs show
module _ (plan : Parts) (docs : List Document) (d : ℕ) (known : List (Option ItemRows)) (page : IsPage plan docs d known) where
  module _ (doc : Document) (doc_is : slice_get docs d ≡ Some doc) where
    show_one : (n : ℕ) (list : RowList) (x : Option ItemRows) → known_at known n ≡ x → n < length plan.nodes → option_map (λ (y : ItemRows). y.rows) x ≡ Some list
        → HasInput plan.lists doc plan.nodes (Some n) list
    show_one n list None is below e = absurd (none-some list e)
    show_one n list (Some found) is below e =
        subst (HasInput plan.lists doc plan.nodes (Some n)) (same_Some found.rows list e) (result-has plan docs d doc doc_is n found below (page.each n found is))

    show_all : (outs : List PlanOut) (shown : List RowList) → All (λ (out : PlanOut). out.node < length plan.nodes) outs
        → AllZip (λ (out : PlanOut) (list : RowList). rows_on known out.node ≡ Some list) outs shown → AllZip (λ (out : PlanOut) (list : RowList). HasInput plan.lists doc plan.nodes (Some out.node) list) outs shown
    show_all [] [] below are = tt
    show_all [] (list ∷ shown) below are = absurd are
    show_all (out ∷ outs) [] below are = absurd are
    show_all (out ∷ outs) (list ∷ shown) below are = (
      show_one out.node list (known_at known out.node) refl (All-head (λ (o : PlanOut). o.node < length plan.nodes) out outs below) are.0,
      show_all outs shown (All-tail (λ (o : PlanOut). o.node < length plan.nodes) out outs below) are.1,
    )

  pub known-answer : (d' : ℕ) (shown : List RowList) → d ≡ d' → AreOutputs plan.nodes plan.outputs
      → AllZip (λ (out : PlanOut) (list : RowList). rows_on known out.node ≡ Some list) plan.outputs shown → IsAnswerOn plan docs d' shown
  known-answer d' shown document valid are =
      subst (λ (k : ℕ). IsAnswerOn plan docs k shown) document (λ doc doc_is. show_all doc doc_is plan.outputs shown (outputs_there plan valid) are)

module _ (plan : Parts) (docs : List Document) where
  -- one document more is answered
  answers_more : (d : ℕ) (old new : List (List RowList)) (shown : List RowList) → d < length docs → new ≡ old ++ shown ∷ [] → AreAnswers plan (take d docs) old → IsAnswerOn plan docs d shown
      → AreAnswers plan (take (d + 1) docs) new
  answers_more d old new shown below put before here =
      let doc = document_at docs d below in
      subst (AreAnswers plan (take (d + 1) docs)) (sym put)
      (zip_more (AreOutputRows plan) docs old d doc.0 shown below (sym (get_or_from_slice_get docs d doc.0 doc.0 doc.1)) before (here doc.0 doc.1))

  pub answers-pushed : {V : Type 0} (old new : List V) (rows : V) (f : V → List RowList) (d : ℕ) → d < length docs → new ≡ old ++ rows ∷ [] → AreAnswers plan (take d docs) (map f old)
      → IsAnswerOn plan docs d (f rows) → AreAnswers plan (take (d + 1) docs) (map f new)
  answers-pushed old new rows f d below put before here = answers_more d (map f old) (map f new) (f rows) below (ap (map f) put ∙ map_push f old rows) before here

  -- all documents are done
  pub all-answered : (d : ℕ) (shown : List (List RowList)) → d ≡ length docs → AreAnswers plan (take d docs) shown → AreAnswers plan docs shown
  all-answered d shown all are = subst (λ (ds : List Document). AreAnswers plan ds shown) (take_all d docs (omega (arith, all))) are

  pub evaluated-by : (done : Evaluated) → IsReached done.board → IsSound done.board → IsFilledTo plan docs (length docs) (item_at plan (length docs) 0) done.board
      → AreAnswers plan docs done.answers → IsEvaluation plan docs done
  evaluated-by done reached sound filled answers = record {
    plan_is = filled.plan_is;
    docs_are = filled.docs_are;
    reached = reached;
    complete = complete-filled plan docs done.board sound filled;
    answers = answers;
  }
