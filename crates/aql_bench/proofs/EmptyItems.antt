-- On each document the matches of a pattern that isn't there are no row.
use Rattle.std.proofs.Common.{◌≡◌, ◌∙◌, inl, inr, ℕ, ◌+◌, ◌*◌, ◌^◌, ◌<◌, List, [], length, refl, sym, ap, ap₂, subst, arith, Contains, All, Some}
use Rattle.std.specs.Prelude.{slice_get, slice_index_or}
use Rattle.std.proofs.lemmas.List.Elements.{All-nil}
use Rattle.std.proofs.lemmas.Option.{slice_get_cases}
use Rattle.aql_base.specs.BagLaws.{SameBag-is}
use Rattle.span_token.specs.Documents.{Doc as Document}
use Rattle.row_values.specs.Datums.{IsOfDocument}
use Rattle.row_values.specs.Rows.{RowList}
use Rattle.algebra.specs.declared.node.Node.{Node}
use Rattle.algebra.specs.declared.node.Node.TheVariants.{Regex}
use Rattle.algebra.specs.Needed as needs
use Rattle.algebra.specs.Plans.{Parts}
use Rattle.algebra.specs.Shapes.{shapes_of, no_shape}
use Rattle.algebra.specs.Values.{val}
use Rattle.run_tables.specs.Items.{IsResult}
use Rattle.aql_bench.specs.EmptyPlans.{IsEmptyPlan, empty_nodes}

module _ (plan : Parts) (docs : List Document) (d : ℕ) (is : IsEmptyPlan plan) where
  no_match : (doc : Document) → val plan.lists doc plan.nodes 1 ≡ []
  no_match doc =
      subst (λ (nodes : List Node). val plan.lists doc nodes 1 ≡ []) (sym is.nodes)
      (subst (λ (patterns : List (List ℕ)). val (record { patterns = patterns; dicts = plan.lists.dicts }) doc empty_nodes 1 ≡ []) (sym is.patterns) refl)

  result_on : (doc : Document) → slice_get docs d ≡ Some doc → IsResult plan docs (d * 2 + 1) (record { width = 1; rows = [] })
  result_on doc there = record {
    of_item = record {
      d = d;
      n = 1;
      doc = doc;
      node = Regex 0 0 0 [];
      is = ap (λ (nodes : List Node). d * length nodes + 1) (sym is.nodes);
      doc_is = there;
      node_is = ap (λ (nodes : List Node). slice_get nodes 1) is.nodes;
    };
    needed = needs.output 1 (subst (λ outs. Contains outs 1) (sym is.outputs) (0, omega arith, refl));
    has = record {
      width = sym (ap (λ (nodes : List Node). (slice_index_or (shapes_of nodes) 1 no_shape).width) is.nodes);
      lies = All-nil (All (IsOfDocument doc));
      same = SameBag-is _ _ (sym (no_match doc));
    };
  }

  result_there : d < length docs → IsResult plan docs (d * 2 + 1) (record { width = 1; rows = [] })
  result_there below = elim (slice_get_cases docs d).1 [
    | inl found ↦ result_on found.0 found.2
    | inr past ↦ absurd (omega (arith, below, past.0))
  ]

  pub empty-result : (item : ℕ) (list : RowList) → d < length docs → item ≡ d * 2 + 1 → list ≡ record { width = 1; rows = [] } → IsResult plan docs item list
  empty-result item list below item_is list_is =
      subst (λ (i : ℕ). IsResult plan docs i list) (sym item_is) (subst (IsResult plan docs (d * 2 + 1)) (sym list_is) (result_there below))

-- there are two items for each document
module _ (plan kept : Parts) (docs given : List Document) (is : IsEmptyPlan plan) (same_plan : kept ≡ plan) (same_docs : given ≡ docs) where
  pub two_each : length given * length kept.nodes ≡ length docs * 2
  two_each =
      ap₂ (λ (m n : ℕ). m * n) (ap (λ (ds : List Document). length ds) same_docs)
      (ap (λ (p : Parts). length p.nodes) same_plan ∙ ap (λ (nodes : List Node). length nodes) is.nodes)

  pub few_items : length docs * 2 < 2 ^ 32 → length given * length kept.nodes < 2 ^ 32
  few_items few = subst (λ (n : ℕ). n < 2 ^ 32) (sym two_each) few
