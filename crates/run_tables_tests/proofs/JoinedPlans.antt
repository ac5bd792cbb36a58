-- The items of the tests' plan with a conditional join may be computed one after another, the right one of the join where the
-- left one has a row.
use Rattle.std.proofs.Common.{◌≡◌, ◌≢◌, inl, inr, ℕ, ◌+◌, ◌*◌, ◌^◌, ◌<◌, List, [], ◌∷◌, length, refl, sym, ap, ap₂, subst, ◌∙◌, arith, Contains, Some, None, true}
use Rattle.std.specs.Prelude.{slice_get, slice_index_or}
use Rattle.std.proofs.lemmas.List.Elements.{All-cons, All-nil}
use Rattle.std.proofs.lemmas.List.Sorted.{length_permutation}
use Rattle.std.proofs.lemmas.Option.{slice_get_cases}
use Rattle.span_token.specs.Documents.{Doc as Document}
use Rattle.aql_typed.specs.Meaning.{Rows}
use Rattle.row_values.specs.Rows.{RowList}
use Rattle.algebra.specs.declared.node.Node.{Node}
use Rattle.algebra.specs.declared.node.Node.TheVariants.{Doc, Regex, Project, Cross}
use Rattle.algebra.specs.Items.{IsItem, HasInput, item_at, output_nodes}
use Rattle.algebra.specs.ItemLaws.{at-each}
use Rattle.algebra.specs.Needed.{IsNeeded}
use Rattle.algebra.specs.Needed as needs
use Rattle.algebra.specs.declared.output.PlanOut.{PlanOut}
use Rattle.algebra.specs.Plans.{Parts, IsOutput, AreOutputs}
use Rattle.algebra.specs.Shapes.{shapes_of, no_shape, IsOpen}
use Rattle.algebra.specs.Values.{val}
use Rattle.run_tables.specs.Items.{ItemRows, IsResult, MayCompute}
use Rattle.run_tables_tests.specs.Plans.{IsJoinedPlan, joined_nodes}

no_rows : (rows : Rows) → length rows ≡ 0 → rows ≡ []
no_rows [] none = refl
no_rows (row ∷ rows) none = absurd (omega (arith, none))

module _ (plan : Parts) (docs : List Document) (d first : ℕ) (doc : Document) (is : IsJoinedPlan plan) (there : slice_get docs d ≡ Some doc) (first_is : first ≡ d * 4) where
  begin : first ≡ d * length plan.nodes
  begin = first_is ∙ ap (λ (nodes : List Node). d * length nodes) (sym is.nodes)

  node_at : (n : ℕ) (node : Node) → slice_get joined_nodes n ≡ Some node → slice_get plan.nodes n ≡ Some node
  node_at n node at = ap (λ (nodes : List Node). slice_get nodes n) is.nodes ∙ at

  -- item n of the document
  abbrev node_item : (i n : ℕ) (node : Node) → i ≡ first + n → slice_get joined_nodes n ≡ Some node → IsItem plan docs i
  node_item i n node e at = record { d = d; n = n; doc = doc; node = node; is = omega (arith, e, begin); doc_is = there; node_is = node_at n node at }

  of_input : (i n : ℕ) → i ≡ first + n → Some i ≡ Some (item_at plan d n)
  of_input i n e = ap Some (e ∙ ap (λ (m : ℕ). m + n) begin)

  needed_3 : IsNeeded plan.lists doc plan.nodes (output_nodes plan) 3
  needed_3 = needs.output 3 (subst (λ outs. Contains outs 3) (sym is.outputs) (0, omega arith, refl))

  needed_1 : IsNeeded plan.lists doc plan.nodes (output_nodes plan) 1
  needed_1 = needs.input 3 1 (Cross 1 2 true) (node_at 3 (Cross 1 2 true) refl) (inl refl) needed_3

  needed_0 : IsNeeded plan.lists doc plan.nodes (output_nodes plan) 0
  needed_0 = needs.input 1 0 (Regex 0 0 0 []) (node_at 1 (Regex 0 0 0 []) refl) (inl refl) needed_1

  pub text-may : MayCompute plan docs first None None
  text-may = record { of_item = node_item first 0 Doc (omega arith) refl; needed = needed_0; of_left = refl; of_right = inl refl }

  pub left-may : (text : ItemRows) → text.item ≡ first → MayCompute plan docs (first + 1) (Some text) None
  left-may text of_text = record {
    of_item = node_item (first + 1) 1 (Regex 0 0 0 []) refl refl;
    needed = needed_1;
    of_left = of_input text.item 0 (omega (arith, of_text));
    of_right = inl refl;
  }

  -- the left result tells that its node has a row
  has_row : (found : ItemRows) → found.item ≡ first + 1 → IsResult plan docs found.item found.rows → length found.rows.rows ≢ 0 → val plan.lists doc plan.nodes 1 ≢ []
  has_row found of_left result some none =
      let has =
      at-each plan docs (λ (doc : Document) (n : ℕ). HasInput plan.lists doc plan.nodes (Some n) found.rows) found.item (first + 1) of_left result.of_item
      (node_item (first + 1) 1 (Regex 0 0 0 []) refl refl) result.has in
      let as_long : length (val plan.lists doc plan.nodes 1) ≡ length found.rows.rows = length_permutation found.rows.rows (val plan.lists doc plan.nodes 1) has.same in
      some (sym as_long ∙ ap length none)

  pub right-may : (text found : ItemRows) → text.item ≡ first → found.item ≡ first + 1 → IsResult plan docs found.item found.rows → length found.rows.rows ≢ 0
      → MayCompute plan docs (first + 2) (Some text) None
  right-may text found of_text of_left result some = record {
    of_item = node_item (first + 2) 2 (Project 0 []) refl refl;
    needed = needs.input 3 2 (Cross 1 2 true) (node_at 3 (Cross 1 2 true) refl) (inr (refl, λ conditional. has_row found of_left result some)) needed_3;
    of_left = of_input text.item 0 (omega (arith, of_text));
    of_right = inl refl;
  }

  pub join-may : (found other : ItemRows) → found.item ≡ first + 1 → other.item ≡ first + 2 → MayCompute plan docs (first + 3) (Some found) (Some other)
  join-may found other of_left of_right = record {
    of_item = node_item (first + 3) 3 (Cross 1 2 true) refl refl;
    needed = needed_3;
    of_left = of_input found.item 1 of_left;
    of_right = inl (of_input other.item 2 of_right);
  }

  -- without a left row the join does without the right one
  pub empty-may : (found : ItemRows) → found.item ≡ first + 1 → length found.rows.rows ≡ 0 → MayCompute plan docs (first + 3) (Some found) None
  empty-may found of_left none = record {
    of_item = node_item (first + 3) 3 (Cross 1 2 true) refl refl;
    needed = needed_3;
    of_left = of_input found.item 1 of_left;
    of_right = inr (record { conditional = refl; left_empty = no_rows found.rows.rows none; right_absent = refl });
  }

doc_at : (docs : List Document) (d : ℕ) → d < length docs → (doc : Document) × (slice_get docs d ≡ Some doc)
doc_at docs d below = elim (slice_get_cases docs d).1 [
  | inl found ↦ (found.0, found.2)
  | inr past ↦ absurd (omega (arith, below, past.0))
]

-- so they may on each document that is there
module _ (plan : Parts) (docs : List Document) (d : ℕ) (is : IsJoinedPlan plan) (below : d < length docs) where
  at : (doc : Document) × (slice_get docs d ≡ Some doc)
  at = doc_at docs d below

  pub text_there : MayCompute plan docs (d * 4) None None
  text_there = text-may plan docs d (d * 4) at.0 is at.1 refl

  pub left_there : (text : ItemRows) → text.item ≡ d * 4 → MayCompute plan docs (d * 4 + 1) (Some text) None
  left_there text of_text = left-may plan docs d (d * 4) at.0 is at.1 refl text of_text

  pub right_there : (text found : ItemRows) (rows : RowList) → text.item ≡ d * 4 → found.item ≡ d * 4 + 1 → rows ≡ found.rows → IsResult plan docs found.item rows → length rows.rows ≢ 0
      → MayCompute plan docs (d * 4 + 2) (Some text) None
  right_there text found rows of_text of_left are result some =
      right-may plan docs d (d * 4) at.0 is at.1 refl text (record { item = found.item; rows = rows }) of_text of_left result some

  pub join_there : (found other : ItemRows) → found.item ≡ d * 4 + 1 → other.item ≡ d * 4 + 2 → MayCompute plan docs (d * 4 + 3) (Some found) (Some other)
  join_there found other of_left of_right = join-may plan docs d (d * 4) at.0 is at.1 refl found other of_left of_right

  pub empty_there : (found : ItemRows) (rows : RowList) → found.item ≡ d * 4 + 1 → rows ≡ found.rows → length rows.rows ≡ 0 → MayCompute plan docs (d * 4 + 3) (Some found) None
  empty_there found rows of_left are none = empty-may plan docs d (d * 4) at.0 is at.1 refl found of_left (ap (λ (list : RowList). length list.rows) (sym are) ∙ none)

-- there are four items for each document
module _ (plan kept : Parts) (docs given : List Document) (is : IsJoinedPlan plan) (same_plan : kept ≡ plan) (same_docs : given ≡ docs) where
  pub four_each : length given * length kept.nodes ≡ length docs * 4
  four_each =
      ap₂ (λ (m n : ℕ). m * n) (ap (λ (ds : List Document). length ds) same_docs)
      (ap (λ (p : Parts). length p.nodes) same_plan ∙ ap (λ (nodes : List Node). length nodes) is.nodes)

  pub few_items : length docs * 4 < 2 ^ 32 → length given * length kept.nodes < 2 ^ 32
  few_items few = subst (λ (n : ℕ). n < 2 ^ 32) (sym four_each) few

one_output : (out : PlanOut) → out.node ≡ 3 → length out.names.columns ≡ 1 → IsOutput (shapes_of joined_nodes) out
one_output out node one =
    let below : 3 < 4 = omega arith in
    record {
      there = subst (λ (n : ℕ). n < 4) (sym node) below;
      shown = subst (λ (n : ℕ). IsOpen (slice_index_or (shapes_of joined_nodes) n no_shape)) (sym node) tt;
      columns = one ∙ sym (ap (λ (n : ℕ). (slice_index_or (shapes_of joined_nodes) n no_shape).width) node);
    }

-- a plan of these nodes may show the join
pub joined_outputs : (nodes : List Node) (outs : List PlanOut) (out : PlanOut) → nodes ≡ joined_nodes → outs ≡ out ∷ [] → out.node ≡ 3 → length out.names.columns ≡ 1 → AreOutputs nodes outs
joined_outputs nodes outs out same are node one =
    subst (λ (ns : List Node). AreOutputs ns outs) (sym same)
    (subst (λ (all : List PlanOut). AreOutputs joined_nodes all) (sym are) (record {
      each = All-cons (IsOutput (shapes_of joined_nodes)) out [] (one_output out node one) (All-nil (IsOutput (shapes_of joined_nodes)));
      distinct = λ i j d first below. absurd (omega (arith, first, below));
    }))
