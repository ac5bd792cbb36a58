-- Lists without rows, for the outputs of a plan, and entries.
use Rattle.std.proofs.Common.{◌≡◌, ℕ, List, [], ◌∷◌, map, length, refl, ap, ap₂, ◌∙◌, All}
use Rattle.std.proofs.lemmas.List.Elements.{All-nil, All-cons}
use Rattle.aql_base.specs.BagLaws.{SameBag-refl}
use Rattle.span_token.specs.Documents.{Doc}
use Rattle.row_values.specs.Datums.{Datum, IsOfDocument}
use Rattle.row_values.specs.Outputs.{OutputNames}
use Rattle.row_values.specs.Rows.{RowList, RowsLieIn}
use Rattle.algebra.specs.declared.output.PlanOut.{PlanOut}
use Rattle.algebra.specs.Plans.{Parts}
use Rattle.run_pool.specs.Answers.{no_rows, IsAnswer}
use Rattle.run_pool.specs.Entries.{Entry}
use Rattle.run_pool.specs.Lines.{AreSameBags}

abbrev pub empty_of : PlanOut → RowList
empty_of out = record { width = length out.names.columns; rows = [] }

bags : (outs : List PlanOut) → AreSameBags (map (λ (list : RowList). list.rows) (map empty_of outs)) (map (λ (out : PlanOut). []) outs)
bags [] = tt
bags (out ∷ outs) = (SameBag-refl [], bags outs)

wide : (outs : List PlanOut) → map (λ (list : RowList). list.width) (map empty_of outs) ≡ map (λ (output : OutputNames). length output.columns) (map (λ (out : PlanOut). out.names) outs)
wide [] = refl
wide (out ∷ outs) = ap (λ (ns : List ℕ). length out.names.columns ∷ ns) (wide outs)

lies : (doc : Doc) (outs : List PlanOut) → All (RowsLieIn doc) (map (λ (list : RowList). list.rows) (map empty_of outs))
lies doc [] = All-nil (RowsLieIn doc)
lies doc (out ∷ outs) = All-cons (RowsLieIn doc) [] (map (λ (list : RowList). list.rows) (map empty_of outs)) (All-nil (All (IsOfDocument doc))) (lies doc outs)

pub empty_answer : (plan : Parts) (doc : Doc) → IsAnswer no_rows plan doc (map empty_of plan.outputs)
empty_answer plan doc = record { bags = bags plan.outputs; wide = wide plan.outputs; lies = lies doc plan.outputs }

abbrev entry : List ℕ → List ℕ → List ℕ → List ℕ → Entry
entry plan text line sizes = record { plan = plan; text = text; line = line; sizes = sizes }

-- entries with the same parts
pub same_entry : (p p' t t' l l' s s' : List ℕ) → p ≡ p' → t ≡ t' → l ≡ l' → s ≡ s' → entry p t l s ≡ entry p' t' l' s'
same_entry p p' t t' l l' s s' plan text line sizes =
    ap₂ (λ (x y : List ℕ). entry x y l s) plan text ∙ ap₂ (λ (x y : List ℕ). entry p' t' x y) line sizes
