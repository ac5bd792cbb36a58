-- Laws of plans that are put together anew, node by node.
use Rattle.std.proofs.Common.{◌≡◌, ℕ, ◌<◌, ◌⊎◌, inl, inr, List, [], ◌∷◌, ◌++◌, length, get_or, refl, sym, ap, ap₂, subst, ◌∙◌, arith, Option, Some, None, option_map}
use Rattle.std.specs.Option.{IfSome}
use Rattle.std.proofs.lemmas.Bool.{cases_lt}
use Rattle.std.proofs.lemmas.List.{append-nil, length-append, get_or_append_left, get_or_at}
use Rattle.aql_base.specs.Bags.{SameBag}
use Rattle.aql_base.specs.BagLaws.{SameBag-refl, SameBag-trans, SameBag-is}
use Rattle.span_token.specs.Documents.{Doc}
use Rattle.scalar_ops.specs.Tables.{Lists}
use Rattle.aql_typed.specs.Meaning.{Rows}
use Rattle.algebra.specs.declared.node.Node.{Node}
use Rattle.algebra.specs.declared.shape.Shape.{Shape}
use Rattle.algebra.specs.Inputs.{left_input, right_input, with_inputs, IsAmong}
use Rattle.algebra.specs.Operators.{op}
use Rattle.algebra.specs.OperatorLaws.{op-SameBag, op-renamed, left-renamed, right-renamed, shape-renamed, made-renamed}
use Rattle.algebra.specs.Folds.{of_input, had}
use Rattle.algebra.specs.FoldLaws.{length-each, last-had}
use Rattle.algebra.specs.Values.{all_values, val, value_after}
use Rattle.algebra.specs.Shapes.{shape_by, no_shape, shapes_of}
use Rattle.algebra.specs.Nodes.{IsNode}
use Rattle.algebra.specs.Growth.{Grows, Has, Stands}
use Rattle.algebra.specs.GrowthLaws.{grows-length, shape-kept, val-kept}
use Rattle.algebra.specs.Mapping.{new_number, IsMapped, KeepsInputs}

pub mapped-none : (Kept : ℕ → Type 0) (new : List Node) → IsMapped Kept [] new []
mapped-none Kept new = record {
  long = refl;
  there = λ i below kept. absurd (omega (arith, below));
  shaped = λ i below kept. absurd (omega (arith, below));
  same = λ lists doc i below kept. absurd (omega (arith, below));
}

module _ (Kept : ℕ → Type 0) (old new : List Node) (to : List ℕ) (mapped : IsMapped Kept old new to) where
  abbrev look : ℕ → ℕ
  look i = new_number to i

  input_there : (o : Option ℕ) → IsAmong (length (shapes_of old)) o → IfSome o Kept → IsAmong (length (shapes_of new)) (option_map look o)
  input_there None among kept = tt
  input_there (Some i) among kept =
      omega (arith, mapped.there i (omega (arith, among, mapped.long, length-each no_shape shape_by old)) kept, length-each no_shape shape_by new)

  input_shaped : (o : Option ℕ) → IsAmong (length (shapes_of old)) o → IfSome o Kept → of_input no_shape (shapes_of new) (option_map look o) ≡ of_input no_shape (shapes_of old) o
  input_shaped None among kept = refl
  input_shaped (Some i) among kept = mapped.shaped i (omega (arith, among, mapped.long, length-each no_shape shape_by old)) kept

  input_same : (lists : Lists) (doc : Doc) (o : Option ℕ) → IsAmong (length (shapes_of old)) o → IfSome o Kept → SameBag (of_input [] (all_values lists doc new) (option_map look o)) (of_input [] (all_values lists doc old) o)
  input_same lists doc None among kept = SameBag-refl []
  input_same lists doc (Some i) among kept = mapped.same lists doc i (omega (arith, among, mapped.long, length-each no_shape shape_by old)) kept

  module _ (node : Node) (valid : IsNode (shapes_of old) node) (keeps : KeepsInputs Kept node) where
    left_shaped : of_input no_shape (shapes_of new) (left_input (with_inputs look node)) ≡ of_input no_shape (shapes_of old) (left_input node)
    left_shaped = ap (of_input no_shape (shapes_of new)) (left-renamed look node) ∙ input_shaped (left_input node) valid.left_below keeps.left

    right_shaped : of_input no_shape (shapes_of new) (right_input (with_inputs look node)) ≡ of_input no_shape (shapes_of old) (right_input node)
    right_shaped = ap (of_input no_shape (shapes_of new)) (right-renamed look node) ∙ input_shaped (right_input node) valid.right_below keeps.right

    -- the node may stand in the new plan, with the new numbers of its inputs
    pub node-renamed : IsNode (shapes_of new) (with_inputs look node)
    node-renamed = record {
      left_below = subst (IsAmong (length (shapes_of new))) (sym (left-renamed look node)) (input_there (left_input node) valid.left_below keeps.left);
      right_below = subst (IsAmong (length (shapes_of new))) (sym (right-renamed look node)) (input_there (right_input node) valid.right_below keeps.right);
      made = rw (left_shaped, right_shaped) (made-renamed look node (of_input no_shape (shapes_of old) (left_input node)) (of_input no_shape (shapes_of old) (right_input node)) valid.made);
    }

    shape_renamed : had no_shape shape_by (shapes_of new) (with_inputs look node) ≡ had no_shape shape_by (shapes_of old) node
    shape_renamed =
        ap₂ (λ (a b : Shape). shape_by (with_inputs look node) a b) left_shaped right_shaped
        ∙ shape-renamed look node (of_input no_shape (shapes_of old) (left_input node)) (of_input no_shape (shapes_of old) (right_input node))

    rows_renamed : (lists : Lists) (doc : Doc) → SameBag (value_after lists doc new (with_inputs look node)) (value_after lists doc old node)
    rows_renamed lists doc =
        let left : of_input [] (all_values lists doc new) (left_input (with_inputs look node)) ≡ of_input [] (all_values lists doc new) (option_map look (left_input node)) = ap (of_input [] (all_values lists doc new)) (left-renamed look node) in
        let right : of_input [] (all_values lists doc new) (right_input (with_inputs look node)) ≡ of_input [] (all_values lists doc new) (option_map look (right_input node)) = ap (of_input [] (all_values lists doc new)) (right-renamed look node) in
        SameBag-trans _ _ _ (SameBag-is _ _ (ap₂ (λ (a b : Rows). op lists doc (with_inputs look node) a b) left right
        ∙ op-renamed lists doc look node (of_input [] (all_values lists doc new) (option_map look (left_input node))) (of_input [] (all_values lists doc new) (option_map look (right_input node)))))
        (op-SameBag lists doc node _ _ _ _ (input_same lists doc (left_input node) valid.left_below keeps.left) (input_same lists doc (right_input node) valid.right_below keeps.right))

  -- which number stands for a node, with one more
  look_kept : (n i : ℕ) → i < length to → new_number (to ++ n ∷ []) i ≡ new_number to i
  look_kept n i below = get_or_append_left to (n ∷ []) 0 i below

  look_last : (n i : ℕ) → i ≡ length to → new_number (to ++ n ∷ []) i ≡ n
  look_last n i last = get_or_at to n [] 0 i (sym last)

  one_more : (n i : ℕ) → i < length (to ++ n ∷ []) → (i < length to) ⊎ (i ≡ length to)
  one_more n i below = elim (cases_lt i (length to)) [
    | inl h ↦ inl h
    | inr h ↦ inr (omega (arith, h, below, length-append to (n ∷ [])))
  ]

  -- an old node more, which has a new one where it is kept
  mapped_more : (node : Node) (later : List Node) (n : ℕ) → Grows new later
      → (Kept (length old) → Has later n (had no_shape shape_by (shapes_of old) node) (λ lists doc. value_after lists doc old node))
      → IsMapped Kept (old ++ node ∷ []) later (to ++ n ∷ [])
  mapped_more node later n grows has =
      let push : Grows old (old ++ node ∷ []) = record { added = node ∷ []; grown = refl } in
      let last : length to ≡ length old = mapped.long in
      record {
        long = omega (arith, last, length-append to (n ∷ []), length-append old (node ∷ []));
        there = λ i below kept. elim (one_more n i below) [
          | inl h ↦ omega (arith, look_kept n i h, mapped.there i h kept, grows-length new later grows)
          | inr h ↦ omega (arith, look_last n i h, (has (subst Kept (h ∙ last) kept)).there)
        ];
        shaped = λ i below kept. elim (one_more n i below) [
          | inl h ↦ ap (λ k. get_or (shapes_of later) k no_shape) (look_kept n i h)
              ∙ (shape-kept new later (new_number to i) grows (mapped.there i h kept)
              ∙ (mapped.shaped i h kept ∙ sym (shape-kept old (old ++ node ∷ []) i push (omega (arith, h, last)))))
          | inr h ↦ ap (λ k. get_or (shapes_of later) k no_shape) (look_last n i h)
              ∙ ((has (subst Kept (h ∙ last) kept)).shaped
              ∙ (sym (last-had no_shape shape_by old node) ∙ ap (λ k. get_or (shapes_of (old ++ node ∷ [])) k no_shape) (sym (h ∙ last))))
        ];
        same = λ lists doc i below kept. elim (one_more n i below) [
          | inl h ↦ SameBag-trans _ _ _ (SameBag-is _ _ (ap (val lists doc later) (look_kept n i h) ∙ val-kept lists doc new later (new_number to i) grows (mapped.there i h kept)))
              (SameBag-trans _ _ _ (mapped.same lists doc i h kept) (SameBag-is _ _ (sym (val-kept lists doc old (old ++ node ∷ []) i push (omega (arith, h, last))))))
          | inr h ↦ SameBag-trans _ _ _ (SameBag-is _ _ (ap (val lists doc later) (look_last n i h)))
              (SameBag-trans _ _ _ ((has (subst Kept (h ∙ last) kept)).same lists doc)
              (SameBag-is _ _ (sym (last-had [] (op lists doc) old node) ∙ ap (val lists doc (old ++ node ∷ [])) (sym (h ∙ last)))))
        ];
      }

  -- what stands for the node with its new inputs is its new number
  pub mapped-push : (node : Node) (later : List Node) (n : ℕ) → IsNode (shapes_of old) node → KeepsInputs Kept node → Stands new later n (with_inputs look node)
      → IsMapped Kept (old ++ node ∷ []) later (to ++ n ∷ [])
  mapped-push node later n valid keeps stands = mapped_more node later n stands.grows (λ kept. record {
    there = stands.has.there;
    shaped = stands.has.shaped ∙ shape_renamed node valid keeps;
    same = λ lists doc. SameBag-trans _ _ _ (stands.has.same lists doc) (rows_renamed node valid keeps lists doc);
  })

  -- a node that isn't kept needs none
  pub mapped-skip : (node : Node) (n : ℕ) → (Kept (length old) → ⊥) → IsMapped Kept (old ++ node ∷ []) new (to ++ n ∷ [])
  mapped-skip node n gone = mapped_more node new n (record { added = []; grown = sym (append-nil new) }) (λ kept. absurd (gone kept))
