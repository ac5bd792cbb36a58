-- What the outputs of a plan show, by rows that are theirs.
use Rattle.std.proofs.Common.{◌≡◌, ℕ, zero, suc, ◌<◌, List, [], ◌∷◌, map, length, get_or, refl, ap, ap₂, sym, subst, ◌∙◌, arith, All, Some, ◌++◌}
use Rattle.std.specs.List.{AllZip}
use Rattle.std.proofs.lemmas.List.{length-map}
use Rattle.std.proofs.lemmas.Simd.{map-map}
use Rattle.std.proofs.lemmas.List.Elements.{All-nil, All-cons, All-head, All-tail}
use Rattle.aql_base.specs.Bags.{SameBag}
use Rattle.span_token.specs.Documents.{Doc}
use Rattle.row_values.specs.Outputs.{OutputNames}
use Rattle.row_values.specs.Rows.{RowList, RowsLieIn}
use Rattle.algebra.specs.declared.output.PlanOut.{PlanOut}
use Rattle.algebra.specs.Items.{HasInput}
use Rattle.algebra.specs.Plans.{Parts, IsOutput}
use Rattle.algebra.specs.Shapes.{shapes_of}
use Rattle.algebra.specs.Values.{val}
use Rattle.run_pool.specs.Answers.{AreAllAnswers, IsAnswer}
use Rattle.run_pool.specs.Lines.{rows_by}
use Rattle.worker_pool.specs.Evaluations.{AreAnswers, AreOutputRows}

module _ (plan : Parts) (doc : Doc) where
  -- the rows are the output's
  abbrev pub AreRowsOf : PlanOut → RowList → Type 0
  AreRowsOf out list = HasInput plan.lists doc plan.nodes (Some out.node) list

  pub same_bags : (outs : List PlanOut) (lists : List RowList) → AllZip AreRowsOf outs lists
      → AllZip SameBag (map (λ (list : RowList). list.rows) lists) (map (λ (out : PlanOut). val plan.lists doc plan.nodes out.node) outs)
  same_bags [] [] are = tt
  same_bags [] (list ∷ lists) are = absurd are
  same_bags (out ∷ outs) [] are = absurd are
  same_bags (out ∷ outs) (list ∷ lists) are = (are.0.same, same_bags outs lists are.1)

  pub widths_shown : (outs : List PlanOut) (lists : List RowList) → AllZip AreRowsOf outs lists → All (IsOutput (shapes_of plan.nodes)) outs
      → map (λ (list : RowList). list.width) lists ≡ map (λ (out : PlanOut). length out.names.columns) outs
  widths_shown [] [] are valid = refl
  widths_shown [] (list ∷ lists) are valid = absurd are
  widths_shown (out ∷ outs) [] are valid = absurd are
  widths_shown (out ∷ outs) (list ∷ lists) are valid =
      ap₂ (λ (n : ℕ) (ns : List ℕ). n ∷ ns) (are.0.width ∙ sym (All-head (IsOutput (shapes_of plan.nodes)) out outs valid).columns)
      (widths_shown outs lists are.1 (All-tail (IsOutput (shapes_of plan.nodes)) out outs valid))

  pub rows_lie : (outs : List PlanOut) (lists : List RowList) → AllZip AreRowsOf outs lists → All (RowsLieIn doc) (map (λ (list : RowList). list.rows) lists)
  rows_lie [] [] are = All-nil (RowsLieIn doc)
  rows_lie [] (list ∷ lists) are = absurd are
  rows_lie (out ∷ outs) [] are = absurd are
  rows_lie (out ∷ outs) (list ∷ lists) are =
      All-cons (RowsLieIn doc) list.rows (map (λ (list : RowList). list.rows) lists) are.0.lies (rows_lie outs lists are.1)

-- so they are an answer with what was found
pub found_answer : (plan : Parts) (doc : Doc) (lists : List RowList) → AreOutputRows plan doc lists → All (IsOutput (shapes_of plan.nodes)) plan.outputs → IsAnswer rows_by plan doc lists
found_answer plan doc lists are valid = record {
  bags = same_bags plan doc plan.outputs lists are;
  wide = widths_shown plan doc plan.outputs lists are valid ∙ sym (map-map (λ (output : OutputNames). length output.columns) (λ (out : PlanOut). out.names) plan.outputs);
  lies = rows_lie plan doc plan.outputs lists are;
}

pub found_answers : (plan : Parts) (docs : List Doc) (answers : List (List RowList)) → AreAnswers plan docs answers → All (IsOutput (shapes_of plan.nodes)) plan.outputs
    → AreAllAnswers rows_by plan docs answers
found_answers plan [] [] are valid = tt
found_answers plan [] (lists ∷ answers) are valid = absurd are
found_answers plan (doc ∷ docs) [] are valid = absurd are
found_answers plan (doc ∷ docs) (lists ∷ answers) are valid = (found_answer plan doc lists are.0 valid, found_answers plan docs answers are.1 valid)

-- R holds of two lists element by element, the second one mapped
pub zip-mapped : {A B V : Type 0} (R : A → B → Type 0) (xs : List A) (vs : List V) (f : V → B) (i : ℕ) (x : A) (v : V) → AllZip R xs (map f vs) → i < length xs
    → x ≡ get_or xs i x → v ≡ get_or vs i v → R x (f v)
zip-mapped R [] vs f i x v are below is here = absurd (omega arith)
zip-mapped R (a ∷ xs) [] f i x v are below is here = absurd are
zip-mapped R (a ∷ xs) (w ∷ vs) f zero x v are below is here = subst (λ z. R z (f v)) (sym is) (subst (λ u. R a (f u)) (sym here) are.0)
zip-mapped R (a ∷ xs) (w ∷ vs) f (suc i) x v are below is here = zip-mapped R xs vs f i x v are.1 (omega arith) is here

zip-long : {A B : Type 0} (R : A → B → Type 0) (xs : List A) (ys : List B) → AllZip R xs ys → length ys ≡ length xs
zip-long R [] [] are = refl
zip-long R [] (y ∷ ys) are = absurd are
zip-long R (x ∷ xs) [] are = absurd are
zip-long R (x ∷ xs) (y ∷ ys) are = ap (λ (n : ℕ). suc n) (zip-long R xs ys are.1)

pub zip-mapped-below : {A B V : Type 0} (R : A → B → Type 0) (xs : List A) (vs : List V) (f : V → B) (i : ℕ) → AllZip R xs (map f vs) → i < length xs → i < length vs
zip-mapped-below R xs vs f i are below = omega (arith, below, zip-long R xs (map f vs) are, length-map vs f)

-- R holds of two lists, and of one more of each
pub zip-push : {A B : Type 0} (R : A → B → Type 0) (xs : List A) (ys : List B) (x : A) (y : B) → AllZip R xs ys → R x y → AllZip R (xs ++ x ∷ []) (ys ++ y ∷ [])
zip-push R [] [] x y are is = (is, tt)
zip-push R [] (b ∷ ys) x y are is = absurd are
zip-push R (a ∷ xs) [] x y are is = absurd are
zip-push R (a ∷ xs) (b ∷ ys) x y are is = (are.0, zip-push R xs ys x y are.1 is)
