-- A plan that was made of a program gives the lines that the program means.
use Rattle.std.proofs.Common.{◌≡◌, ◌++◌, ◌+◌, ℕ, zero, suc, List, [], ◌∷◌, length, map, refl, sym, ap, ap₂, ◌∙◌, length-append}
use Rattle.std.specs.List.{AllZip, range_with_len}
use Rattle.std.proofs.lemmas.List.{length-map}
use Rattle.std.proofs.lemmas.List.Sums.{sum_by-cons, sum_by_push}
use Rattle.aql_base.specs.CountLaws.{length-SameBag}
use Rattle.span_token.specs.Documents.{Doc}
use Rattle.row_values.specs.Outputs.{OutputNames}
use Rattle.corpus_json.specs.Outputs.{output_line}
use Rattle.aql_typed.specs.declared.tree.Output.{Output}
use Rattle.aql_typed.specs.Meaning.{output_rows}
use Rattle.aql_typed.specs.Programs.{names_of}
use Rattle.aql_typed.specs.Views.{body_of}
use Rattle.algebra.specs.declared.output.PlanOut.{PlanOut}
use Rattle.algebra.specs.Plans.{Parts}
use Rattle.algebra.specs.Values.{val}
use Rattle.demo_corpus.specs.Totals.{Answer, Tally, size_at, total_of, tally_of}
use Rattle.demo_corpus.specs.Summaries.{summary_of}
use Rattle.run_pool.specs.Answers.{IsSound}
use Rattle.run_pool.specs.LineLaws.{lines_alike}
use Rattle.run_pool.specs.Lines.{Meaning, AreSameBags}
use Rattle.plan_maker.specs.Lowered.{ShowsOutput}
use Rattle.plan_maker.specs.Shown.{ShowsProgram}
use Rattle.aqlx_top.specs.Modes.{summary_on}
use Rattle.aqlx_top.specs.Planned.{names_in, rows_by, line_by, summary_by}
use Rattle.aqlx_top.specs.PoolRuns.{summary_from}
use Rattle.aqlx_top.specs.Plans.{IsPlanOf}
use Rattle.aqlx_top.specs.Run.{Typed, Program, program_of, line_of, outputs_of, rows_for}

-- they have as many rows
sizes_alike : (xs ys : Answer) → AreSameBags xs ys → (k : ℕ) → size_at xs k ≡ size_at ys k
sizes_alike [] [] same k = refl
sizes_alike [] (y ∷ ys) same k = absurd same
sizes_alike (x ∷ xs) [] same k = absurd same
sizes_alike (x ∷ xs) (y ∷ ys) same zero = length-SameBag x y same.0
sizes_alike (x ∷ xs) (y ∷ ys) same (suc k) = sizes_alike xs ys same.1 k

maps_alike : (f g : ℕ → ℕ) → ((k : ℕ) → f k ≡ g k) → (ks : List ℕ) → map f ks ≡ map g ks
maps_alike f g alike [] = refl
maps_alike f g alike (k ∷ ks) = ap₂ (λ (n : ℕ) (ns : List ℕ). n ∷ ns) (alike k) (maps_alike f g alike ks)

abbrev tally : ℕ → List ℕ → Tally
tally documents totals = record { documents = documents; totals = totals }

-- so the tally of one answer more is the same
pub tally_alike : (n : ℕ) (answers : List Answer) (xs ys : Answer) → AreSameBags xs ys → tally_of n (answers ++ xs ∷ []) ≡ tally_of n (answers ++ ys ∷ [])
tally_alike n answers xs ys same =
    ap₂ tally (length-append answers (xs ∷ []) ∙ sym (length-append answers (ys ∷ [])))
    (maps_alike (total_of (answers ++ xs ∷ [])) (total_of (answers ++ ys ∷ []))
    (λ k. sum_by_push (λ answer. size_at answer k) answers xs ∙ ap (λ size. total_of answers k + size) (sizes_alike xs ys same k) ∙ sym (sum_by_push (λ answer. size_at answer k) answers ys))
    (range_with_len 0 n))

module _ (f g : Doc → Answer) (alike : (doc : Doc) → AreSameBags (f doc) (g doc)) where
  totals_alike : (docs : List Doc) (k : ℕ) → total_of (map f docs) k ≡ total_of (map g docs) k
  totals_alike [] k = refl
  totals_alike (doc ∷ docs) k =
      sum_by-cons (λ answer. size_at answer k) (f doc) (map f docs) ∙ ap₂ (λ (m n : ℕ). m + n) (sizes_alike (f doc) (g doc) (alike doc) k) (totals_alike docs k)
      ∙ sym (sum_by-cons (λ answer. size_at answer k) (g doc) (map g docs))

  tallies_alike : (n : ℕ) (docs : List Doc) → tally_of n (map f docs) ≡ tally_of n (map g docs)
  tallies_alike n docs =
      ap₂ tally (length-map docs f ∙ sym (length-map docs g))
      (maps_alike (total_of (map f docs)) (total_of (map g docs)) (totals_alike docs) (range_with_len 0 n))

module _ (typed : Typed) (plan : Parts) where
  names_are : (outs : List Output) (shown : List PlanOut) → AllZip (ShowsOutput typed plan) outs shown → map (λ (out : PlanOut). out.names) shown ≡ map (names_of typed.0) outs
  names_are [] [] all = refl
  names_are [] (s ∷ ss) all = absurd all
  names_are (out ∷ outs) [] all = absurd all
  names_are (out ∷ outs) (s ∷ ss) all = ap₂ (λ (n : OutputNames) (ns : List OutputNames). n ∷ ns) all.0.names (names_are outs ss all.1)

  rows_are : (doc : Doc) (outs : List Output) (shown : List PlanOut) → AllZip (ShowsOutput typed plan) outs shown
      → AreSameBags (map (λ (out : PlanOut). val plan.lists doc plan.nodes out.node) shown) (map (output_rows typed.1.0 doc (map body_of typed.0)) (map (λ (out : Output). out.view) outs))
  rows_are doc [] [] all = tt
  rows_are doc [] (s ∷ ss) all = absurd all
  rows_are doc (out ∷ outs) [] all = absurd all
  rows_are doc (out ∷ outs) (s ∷ ss) all = (all.0.rows doc, rows_are doc outs ss all.1)

  made_means : ShowsProgram typed plan → (doc : Doc) → line_by plan doc ≡ line_of (program_of typed) doc
  made_means shows doc =
      ap (λ (names : List OutputNames). output_line doc names (rows_by plan doc)) (names_are typed.1.1 plan.outputs shows.outputs)
      ∙ lines_alike doc (map (names_of typed.0) typed.1.1) (rows_by plan doc) (map (output_rows typed.1.0 doc (map body_of typed.0)) (map (λ (out : Output). out.view) typed.1.1)) (rows_are doc typed.1.1 plan.outputs shows.outputs)

  made_counts : ShowsProgram typed plan → (docs : List Doc) → summary_by plan docs ≡ summary_on (program_of typed) docs
  made_counts shows docs =
      let names : names_in plan ≡ outputs_of typed = names_are typed.1.1 plan.outputs shows.outputs in
      let as_many : length plan.outputs ≡ length (outputs_of typed) = sym (length-map plan.outputs (λ (out : PlanOut). out.names)) ∙ ap length names in
      ap₂ summary_of names
      (ap (λ n. tally_of n (map (rows_by plan) docs)) as_many
      ∙ tallies_alike (rows_by plan) (rows_for (program_of typed)) (λ doc. rows_are doc typed.1.1 plan.outputs shows.outputs) (length (outputs_of typed)) docs)

-- so does the plan of a text
pub plan_means : (text : List ℕ) (plan : Parts) (planned : IsPlanOf text plan) (doc : Doc) → line_by plan doc ≡ line_of planned.program doc
plan_means text plan planned doc =
    made_means planned.holds.typed plan planned.shows doc ∙ ap (λ (program : Program). line_of program doc) (sym planned.holds.program_is)

-- and its summaries are those that the program means
pub plan_counts : (text : List ℕ) (plan : Parts) (planned : IsPlanOf text plan) (docs : List Doc) → summary_by plan docs ≡ summary_on planned.program docs
plan_counts text plan planned docs =
    made_counts planned.holds.typed plan planned.shows docs ∙ ap (λ (program : Program). summary_on program docs) (sym planned.holds.program_is)

-- a sound pool's summaries are those of the plan
pub sound_counts : (means : Meaning) → IsSound means → (plan : Parts) (docs : List Doc) → summary_from means plan docs ≡ summary_by plan docs
sound_counts means sound plan docs = ap (summary_of (names_in plan)) (tallies_alike (means plan) (rows_by plan) (sound plan) (length plan.outputs) docs)
