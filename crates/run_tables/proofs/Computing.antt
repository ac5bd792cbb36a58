-- What an item may be computed from is what its node asks for, and what comes of it is the item's result.
use Rattle.std.proofs.Common.{◌≡◌, ◌≢◌, ◌⊎◌, inl, inr, ℕ, ◌<◌, ◌%◌, ◌/◌, true, List, [], length, get_or, refl, sym, ap, ap₂, subst, ◌∙◌, arith, Option, Some, None, IfSome, All}
use Rattle.std.specs.Prelude.{slice_index_or}
use Rattle.std.proofs.lemmas.List.Elements.{All-nil}
use Rattle.std.proofs.lemmas.Option.{none-some, same_Some, slice_get_within, get_or_from_slice_get}
use Rattle.aql_base.specs.Bags.{SameBag}
use Rattle.aql_base.specs.BagLaws.{SameBag-refl}
use Rattle.span_token.specs.Documents.{Doc}
use Rattle.row_values.specs.Datums.{IsOfDocument}
use Rattle.row_values.specs.Rows.{RowList, RowsLieIn}
use Rattle.scalar_ops.specs.Tables.{Lists}
use Rattle.algebra.specs.declared.node.Node.{Node}
use Rattle.algebra.specs.declared.shape.Shape.{Shape}
use Rattle.algebra.specs.Folds.{of_input}
use Rattle.algebra.specs.Growth.{IsAt}
use Rattle.algebra.specs.GrowthLaws.{is-at}
use Rattle.algebra.specs.Inputs.{left_input, right_input, is_conditional, IsAmong}
use Rattle.algebra.specs.Items.{IsItem, item_at, HasInput}
use Rattle.algebra.specs.ItemLaws.{is_item_at, item-d, item-n, at-each, has-given}
use Rattle.algebra.specs.NodeLaws.{among-more}
use Rattle.algebra.specs.Nodes.{IsPlan}
use Rattle.algebra.specs.Operators.{op}
use Rattle.algebra.specs.Plans.{Parts}
use Rattle.algebra.specs.Shapes.{shape_by, no_shape, shapes_of}
use Rattle.algebra.specs.Values.{all_values}
use Rattle.plan_operators.specs.Given.{MayRead}
use Rattle.run_tables.specs.Inputs.{rows_given}
use Rattle.run_tables.specs.Items.{ItemRows, IsResult, IsOfInput, GoesWithout, MayCompute}

-- the inputs of a plan's node are nodes of the plan
pub at-left : (nodes : List Node) (n : ℕ) (node : Node) → IsAt nodes n node → IsAmong (length nodes) (left_input node)
at-left nodes n node at = among-more n (length nodes) (left_input node) (omega (arith, at.stands.has.there)) at.left_lower

pub at-right : (nodes : List Node) (n : ℕ) (node : Node) → IsAt nodes n node → IsAmong (length nodes) (right_input node)
at-right nodes n node at = among-more n (length nodes) (right_input node) (omega (arith, at.stands.has.there)) at.right_lower

-- what is known of the rows on the right: they are the right input's, where the node asks for it
record IsKnownRight (plan : Parts) (doc : Doc) (node : Node) (left right : RowList) : Type 0 where
  width : right.width ≡ (of_input no_shape (shapes_of plan.nodes) (right_input node)).width
  lies : RowsLieIn doc right.rows
  same : (is_conditional node ≡ true → left.rows ≢ []) → SameBag right.rows (of_input [] (all_values plan.lists doc plan.nodes) (right_input node))

module _ (plan : Parts) (docs : List Doc) (i : ℕ) (of_item : IsItem plan docs i) where
  -- the node and the document of an item, as they are looked up
  pub node-looked_up : (node : Node) → node ≡ slice_index_or plan.nodes (i % length plan.nodes) node → node ≡ of_item.node
  node-looked_up node is =
      is ∙ (ap (λ (n : ℕ). get_or plan.nodes n node) (sym (item-n plan docs i of_item)) ∙ get_or_from_slice_get plan.nodes of_item.n of_item.node node of_item.node_is)

  pub doc-looked_up : (doc : Doc) → doc ≡ slice_index_or docs (i / length plan.nodes) doc → doc ≡ of_item.doc
  doc-looked_up doc is =
      is ∙ (ap (λ (d : ℕ). get_or docs d doc) (sym (item-d plan docs i of_item)) ∙ get_or_from_slice_get docs of_item.d of_item.doc doc of_item.doc_is)

  module _ (planned : IsPlan plan.nodes) where
    at : IsAt plan.nodes of_item.n of_item.node
    at = is-at plan.nodes of_item.n of_item.node planned (slice_get_within plan.nodes of_item.n of_item.node of_item.node_is) (sym (get_or_from_slice_get plan.nodes of_item.n of_item.node of_item.node of_item.node_is))

    left_among : IsAmong (length plan.nodes) (left_input of_item.node)
    left_among = at-left plan.nodes of_item.n of_item.node at

    right_among : IsAmong (length plan.nodes) (right_input of_item.node)
    right_among = at-right plan.nodes of_item.n of_item.node at

    -- a result of an input's item on the same document is what the input has
    result_has : (input : ℕ) → input < length plan.nodes → (found : ItemRows) → found.item ≡ item_at plan of_item.d input → IsResult plan docs found.item found.rows
        → HasInput plan.lists of_item.doc plan.nodes (Some input) found.rows
    result_has input below found is result =
        at-each plan docs (λ (doc : Doc) (n : ℕ). HasInput plan.lists doc plan.nodes (Some n) found.rows) found.item (item_at plan of_item.d input) is result.of_item
        (is_item_at plan docs of_item.d input of_item.doc of_item.doc_is below) result.has

    abbrev IsKnown : Option ItemRows → Type 0
    IsKnown found = IfSome found (λ (result : ItemRows). IsResult plan docs result.item result.rows)

    given_has : (input : Option ℕ) (found : Option ItemRows) → IsAmong (length plan.nodes) input → IsOfInput plan of_item.d input found → IsKnown found
        → HasInput plan.lists of_item.doc plan.nodes input (rows_given plan.nodes input found)
    given_has None None among is known = record { width = refl; lies = All-nil (All (IsOfDocument of_item.doc)); same = SameBag-refl [] }
    given_has None (Some found) among is known = absurd (none-some found.item (sym is))
    given_has (Some input) None among is known = absurd (none-some (item_at plan of_item.d input) is)
    given_has (Some input) (Some found) among is known = result_has input among found (same_Some found.item (item_at plan of_item.d input) is) known

    no_row : (input : Option ℕ) (found : Option ItemRows) → IfSome found (λ (result : ItemRows). result.rows.rows ≡ []) → (rows_given plan.nodes input found).rows ≡ []
    no_row input None empty = refl
    no_row input (Some found) empty = empty

    known_right : (left right : Option ItemRows) → IsOfInput plan of_item.d (right_input of_item.node) right ⊎ GoesWithout of_item.node left right → IsKnown right
        → IsKnownRight plan of_item.doc of_item.node (rows_given plan.nodes (left_input of_item.node) left) (rows_given plan.nodes (right_input of_item.node) right)
    known_right left right (inl is) known =
        let has = given_has (right_input of_item.node) right right_among is known in
        record { width = has.width; lies = has.lies; same = λ asked. has.same }
    known_right left right (inr without) known =
        rw without.right_absent (record {
          width = refl;
          lies = All-nil (All (IsOfDocument of_item.doc));
          same = λ asked. absurd (asked without.conditional (no_row (left_input of_item.node) left without.left_empty));
        })

    module _ (left right : Option ItemRows) (of_left : IsOfInput plan of_item.d (left_input of_item.node) left)
        (of_right : IsOfInput plan of_item.d (right_input of_item.node) right ⊎ GoesWithout of_item.node left right) (left_known : IsKnown left) (right_known : IsKnown right) where
      abbrev left_rows : RowList
      left_rows = rows_given plan.nodes (left_input of_item.node) left

      abbrev right_rows : RowList
      right_rows = rows_given plan.nodes (right_input of_item.node) right

      on_left : HasInput plan.lists of_item.doc plan.nodes (left_input of_item.node) left_rows
      on_left = given_has (left_input of_item.node) left left_among of_left left_known

      on_right : IsKnownRight plan of_item.doc of_item.node left_rows right_rows
      on_right = known_right left right of_right right_known

      -- the node may read the rows that are given
      may_read : MayRead of_item.node left_rows right_rows
      may_read = record {
        left_shape = of_input no_shape (shapes_of plan.nodes) (left_input of_item.node);
        right_shape = of_input no_shape (shapes_of plan.nodes) (right_input of_item.node);
        left_width = on_left.width;
        right_width = on_right.width;
        made = at.valid.made;
      }

      -- and what its operator makes of them is what the node has
      has_computed : (lists : Lists) → lists ≡ plan.lists → (out : RowList) → SameBag out.rows (op lists of_item.doc of_item.node left_rows.rows right_rows.rows)
          → ((s t : Shape) → left_rows.width ≡ s.width → right_rows.width ≡ t.width → out.width ≡ (shape_by of_item.node s t).width) → RowsLieIn of_item.doc out.rows
          → HasInput plan.lists of_item.doc plan.nodes (Some of_item.n) out
      has_computed lists same out rows width lies =
          has-given plan.lists of_item.doc plan.nodes of_item.n of_item.node planned of_item.node_is left_rows.rows right_rows.rows out
          (record { left_is = on_left.same; right_is = on_right.same })
          (subst (λ (tables : Lists). SameBag out.rows (op tables of_item.doc of_item.node left_rows.rows right_rows.rows)) same rows)
          (width (of_input no_shape (shapes_of plan.nodes) (left_input of_item.node)) (of_input no_shape (shapes_of plan.nodes) (right_input of_item.node)) on_left.width on_right.width) lies

-- the rows l and r are what is given for item i, which is the node on the document: the operator makes the item's result of them
pub record IsGivenFor (plan : Parts) (docs : List Doc) (i : ℕ) (doc : Doc) (node : Node) (l r : RowList) : Type 0 where
  pub left_lies : RowsLieIn doc l.rows
  pub right_lies : RowsLieIn doc r.rows
  pub may_read : MayRead node l r
  pub result : (lists : Lists) → lists ≡ plan.lists → (out : RowList) → SameBag out.rows (op lists doc node l.rows r.rows)
      → ((s t : Shape) → l.width ≡ s.width → r.width ≡ t.width → out.width ≡ (shape_by node s t).width) → RowsLieIn doc out.rows → IsResult plan docs i out

-- the rows of the results that an item may be computed from
pub given-for : (plan : Parts) (docs : List Doc) (i : ℕ) (left right : Option ItemRows) (may : MayCompute plan docs i left right) → IsPlan plan.nodes
    → IfSome left (λ (result : ItemRows). IsResult plan docs result.item result.rows) → IfSome right (λ (result : ItemRows). IsResult plan docs result.item result.rows)
    → (doc : Doc) (node : Node) (l r : RowList) → doc ≡ may.of_item.doc → node ≡ may.of_item.node → l ≡ rows_given plan.nodes (left_input node) left → r ≡ rows_given plan.nodes (right_input node) right
    → IsGivenFor plan docs i doc node l r
given-for plan docs i left right may planned left_known right_known doc node l r doc_is node_is l_is r_is =
    let of_item = may.of_item in
    rw (l_is, r_is, node_is, doc_is) (record {
      left_lies = (on_left plan docs i of_item planned left right may.of_left may.of_right left_known right_known).lies;
      right_lies = (on_right plan docs i of_item planned left right may.of_left may.of_right left_known right_known).lies;
      may_read = may_read plan docs i of_item planned left right may.of_left may.of_right left_known right_known;
      result = λ lists same out rows width lies. record {
        of_item = of_item;
        needed = may.needed;
        has = has_computed plan docs i of_item planned left right may.of_left may.of_right left_known right_known lists same out rows width lies;
      };
    })

-- the same, of what is known where the item is computed
pub given-by : (plan plan' : Parts) (docs : List Doc) (i : ℕ) (left right : Option ItemRows) (may : MayCompute plan docs i left right) (doc : Doc) (node : Node) (l r : RowList) (nodes nodes' : List Node) (input input' : Option ℕ)
    → IsAt plan.nodes (i % length plan.nodes) node → ((of_item : IsItem plan docs i) → node ≡ of_item.node) → ((of_item : IsItem plan docs i) → doc ≡ of_item.doc)
    → IfSome left (λ (result : ItemRows). IsResult plan docs result.item result.rows) → IfSome right (λ (result : ItemRows). IsResult plan docs result.item result.rows)
    → plan' ≡ plan → nodes ≡ plan'.nodes → nodes' ≡ plan'.nodes → input ≡ left_input node → input' ≡ right_input node → l ≡ rows_given nodes input left → r ≡ rows_given nodes' input' right
    → IsGivenFor plan docs i doc node l r
given-by plan plan' docs i left right may doc node l r nodes nodes' input input' at node_is doc_is left_known right_known same of_left of_right left_is right_is l_is r_is =
    let all = λ (given : List Node) (e : given ≡ plan'.nodes). e ∙ ap (λ (p : Parts). p.nodes) same in
    given-for plan docs i left right may at.plan left_known right_known doc node l r (doc_is may.of_item) (node_is may.of_item)
    (l_is ∙ ap₂ (λ (ns : List Node) (o : Option ℕ). rows_given ns o left) (all nodes of_left) left_is)
    (r_is ∙ ap₂ (λ (ns : List Node) (o : Option ℕ). rows_given ns o right) (all nodes' of_right) right_is)
