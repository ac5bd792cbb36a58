-- Laws of items: each number below their count is a node on a document, and no other one is; and a node is worth what its operator gives of
-- what it asks for.
use Rattle.std.proofs.Common.{◌≡◌, ◌⊎◌, inl, inr, ℕ, zero, suc, ◌+◌, ◌*◌, ◌/◌, ◌%◌, ◌<◌, Bool, true, false, List, [], ◌∷◌, length, get_or, refl, sym, ap, subst, ◌∙◌, arith, Option, Some, true≢false}
use Rattle.std.specs.Prelude.{slice_get}
use Rattle.std.proofs.Math.Nat.{mul_comm, mul-zero, mod-add-div}
use Rattle.std.proofs.lemmas.Nat.{mul-add-lt, div-mul-add, mod-mul-add, div_below, mod_below}
use Rattle.std.proofs.lemmas.Option.{same_Some, slice_get_within, slice_get_cases, slice_get-get_or, get_or_from_slice_get}
use Rattle.aql_base.specs.Bags.{SameBag}
use Rattle.aql_base.specs.BagLaws.{SameBag-refl, SameBag-trans, SameBag-is}
use Rattle.span_token.specs.Documents.{Doc as Document}
use Rattle.row_values.specs.Rows.{RowList, RowsLieIn}
use Rattle.scalar_ops.specs.Tables.{Lists}
use Rattle.aql_typed.specs.Meaning.{Rows}
use Rattle.algebra.specs.declared.node.Node.{Node}
use Rattle.algebra.specs.declared.node.Node.TheVariants.{Doc}
use Rattle.algebra.specs.declared.shape.Shape.{Shape}
use Rattle.algebra.specs.Folds.{of_input, had}
use Rattle.algebra.specs.GrowthLaws.{is-at, val-is}
use Rattle.algebra.specs.Inputs.{left_input, right_input, is_conditional}
use Rattle.algebra.specs.Items.{IsItem, item_count, item_at, HasInput, AreGiven}
use Rattle.algebra.specs.JoiningLaws.{conditional-nil}
use Rattle.algebra.specs.Nodes.{IsPlan}
use Rattle.algebra.specs.OperatorLaws.{op-SameBag}
use Rattle.algebra.specs.Operators.{op}
use Rattle.algebra.specs.Plans.{Parts}
use Rattle.algebra.specs.Shapes.{shape_by, no_shape, shapes_of}
use Rattle.algebra.specs.Values.{all_values, val}

-- where something is below a product, the factor isn't 0
some_factor : (i m k : ℕ) → i < m * k → 0 < k
some_factor i m zero below = absurd (omega (arith, below, mul-zero m))
some_factor i m (suc k) below = omega arith

divided : (i k : ℕ) → i ≡ i / k * k + i % k
divided i k = omega (arith, mod-add-div i k, mul_comm k (i / k))

cons_nil : {X : Type 0} (x : X) (xs : List X) → x ∷ xs ≡ [] → ⊥
cons_nil x xs e = cc

module _ (plan : Parts) (docs : List Document) where
  -- node n on document d has its item
  abbrev pub is_item_at : (d n : ℕ) (doc : Document) → slice_get docs d ≡ Some doc → n < length plan.nodes → IsItem plan docs (item_at plan d n)
  is_item_at d n doc doc_is below = record {
    d = d;
    n = n;
    doc = doc;
    node = get_or plan.nodes n Doc;
    is = refl;
    doc_is = doc_is;
    node_is = slice_get-get_or plan.nodes n Doc below;
  }

  document_at : (d : ℕ) → d < length docs → (doc : Document) × (slice_get docs d ≡ Some doc)
  document_at d below = elim (slice_get_cases docs d).1 [
    | inl found ↦ (found.0, found.2)
    | inr past ↦ absurd (omega (arith, below, past.0))
  ]

  -- each item is a node on a document
  pub item-is : (i : ℕ) → i < item_count plan docs → IsItem plan docs i
  item-is i below =
      let some = some_factor i (length docs) (length plan.nodes) below in
      let found = document_at (i / length plan.nodes) (div_below i (length plan.nodes) (length docs) some below) in
      subst (IsItem plan docs) (sym (divided i (length plan.nodes)))
      (is_item_at (i / length plan.nodes) (i % length plan.nodes) found.0 found.1 (mod_below i (length plan.nodes) some))

  -- a node on a document is one of the items
  pub item-below : (i : ℕ) → IsItem plan docs i → i < item_count plan docs
  item-below i of_item =
      let here = mul-add-lt of_item.d (length plan.nodes) of_item.n (length docs) (slice_get_within docs of_item.d of_item.doc of_item.doc_is) (slice_get_within plan.nodes of_item.n of_item.node of_item.node_is) in
      omega (arith, here, of_item.is, mul_comm (length docs) (length plan.nodes))

  -- the numbers of its document and of its node
  pub item-d : (i : ℕ) (of_item : IsItem plan docs i) → of_item.d ≡ i / length plan.nodes
  item-d i of_item =
      sym (div-mul-add of_item.d (length plan.nodes) of_item.n (slice_get_within plan.nodes of_item.n of_item.node of_item.node_is)) ∙ ap (λ (m : ℕ). m / length plan.nodes) (sym of_item.is)

  pub item-n : (i : ℕ) (of_item : IsItem plan docs i) → of_item.n ≡ i % length plan.nodes
  item-n i of_item =
      sym (mod-mul-add of_item.d (length plan.nodes) of_item.n (slice_get_within plan.nodes of_item.n of_item.node of_item.node_is)) ∙ ap (λ (m : ℕ). m % length plan.nodes) (sym of_item.is)

  -- one item is on one document, and of one node
  pub same-d : (i j : ℕ) → i ≡ j → (p : IsItem plan docs i) (q : IsItem plan docs j) → p.d ≡ q.d
  same-d i j e p q = item-d i p ∙ (ap (λ (m : ℕ). m / length plan.nodes) e ∙ sym (item-d j q))

  pub same-n : (i j : ℕ) → i ≡ j → (p : IsItem plan docs i) (q : IsItem plan docs j) → p.n ≡ q.n
  same-n i j e p q = item-n i p ∙ (ap (λ (m : ℕ). m % length plan.nodes) e ∙ sym (item-n j q))

  pub same-doc : (i j : ℕ) → i ≡ j → (p : IsItem plan docs i) (q : IsItem plan docs j) → p.doc ≡ q.doc
  same-doc i j e p q = same_Some p.doc q.doc (sym p.doc_is ∙ (ap (λ (d : ℕ). slice_get docs d) (same-d i j e p q) ∙ q.doc_is))

  pub same-node : (i j : ℕ) → i ≡ j → (p : IsItem plan docs i) (q : IsItem plan docs j) → p.node ≡ q.node
  same-node i j e p q = same_Some p.node q.node (sym p.node_is ∙ (ap (λ (n : ℕ). slice_get plan.nodes n) (same-n i j e p q) ∙ q.node_is))

  -- what is said of an item by its document and node is said of it, however it is found
  pub at-each : (P : Document → ℕ → Type 0) (i j : ℕ) → i ≡ j → (p : IsItem plan docs i) (q : IsItem plan docs j) → P p.doc p.n → P q.doc q.n
  at-each P i j e p q holds = subst (λ (n : ℕ). P q.doc n) (same-n i j e p q) (subst (λ (doc : Document). P doc p.n) (same-doc i j e p q) holds)

module _ (lists : Lists) (doc : Document) (nodes : List Node) (n : ℕ) (node : Node) (planned : IsPlan nodes) (is : slice_get nodes n ≡ Some node) where
  abbrev left_worth : Rows
  left_worth = of_input [] (all_values lists doc nodes) (left_input node)

  abbrev right_worth : Rows
  right_worth = of_input [] (all_values lists doc nodes) (right_input node)

  given_both : (left right : Rows) → SameBag left left_worth → SameBag right right_worth → SameBag (op lists doc node left right) (val lists doc nodes n)
  given_both left right left_is right_is =
      let worth = val-is lists doc nodes n node planned (slice_get_within nodes n node is) (sym (get_or_from_slice_get nodes n node node is)) in
      SameBag-trans _ _ _ (op-SameBag lists doc node left left_worth right right_worth left_is right_is) (SameBag-is _ _ (sym worth))

  given_none : is_conditional node ≡ true → (right : Rows) → SameBag [] left_worth → SameBag (op lists doc node [] right) (val lists doc nodes n)
  given_none conditional right left_is =
      let none = conditional-nil lists doc node right conditional ∙ sym (conditional-nil lists doc node right_worth conditional) in
      SameBag-trans _ _ _ (SameBag-is _ _ none) (given_both [] right_worth left_is (SameBag-refl right_worth))

  given_by : (b : Bool) → is_conditional node ≡ b → (left right : Rows) → AreGiven lists doc nodes node left right → SameBag (op lists doc node left right) (val lists doc nodes n)
  given_by false plain left right given = given_both left right given.left_is (given.right_is (λ conditional. absurd (true≢false (sym conditional ∙ plain))))
  given_by true conditional [] right given = given_none conditional right given.left_is
  given_by true conditional (row ∷ rows) right given = given_both (row ∷ rows) right given.left_is (given.right_is (λ c none. cons_nil row rows none))

  -- a node is worth what its operator gives of what it asks for
  pub value-given : (left right : Rows) → AreGiven lists doc nodes node left right → SameBag (op lists doc node left right) (val lists doc nodes n)
  value-given left right given = given_by (is_conditional node) refl left right given

  -- so rows that the operator makes are what the node has
  pub has-given : (left right : Rows) (out : RowList) → AreGiven lists doc nodes node left right → SameBag out.rows (op lists doc node left right)
      → out.width ≡ (had no_shape shape_by (shapes_of nodes) node).width → RowsLieIn doc out.rows → HasInput lists doc nodes (Some n) out
  has-given left right out given rows width lies =
      let at = is-at nodes n node planned (slice_get_within nodes n node is) (sym (get_or_from_slice_get nodes n node node is)) in
      record {
        width = width ∙ ap (λ (s : Shape). s.width) (sym at.stands.has.shaped);
        lies = lies;
        same = SameBag-trans _ _ _ rows (value-given left right given);
      }
