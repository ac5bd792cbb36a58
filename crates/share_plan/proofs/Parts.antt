-- What a part of a `Dict` node has: the rows of the node's input, followed by the matches of the part's dictionary.
use Rattle.std.proofs.Common.{◌≡◌, ◌∙◌, ℕ, ◌+◌, ◌-◌, ◌<◌, ◌⊎◌, inl, inr, List, [], ◌∷◌, ◌++◌, length, get_or, slice_get, refl, sym, ap, subst, arith, Some}
use Rattle.std.proofs.lemmas.Bool.{cases_lt}
use Rattle.std.proofs.lemmas.List.{length-append, get_or_append_left, get_or_at}
use Rattle.std.proofs.lemmas.Option.{slice_get_within, get_or_from_slice_get}
use Rattle.aql_base.specs.BagLaws.{SameBag-trans, SameBag-is}
use Rattle.span_token.specs.Documents.{Doc}
use Rattle.scalar_ops.specs.Tables.{Lists}
use Rattle.aql_typed.specs.Trees.{dict}
use Rattle.aql_typed.specs.Meaning.{Rows}
use Rattle.algebra.specs.declared.node.Node.{Node}
use Rattle.algebra.specs.declared.node.Node.TheVariants.{Dict, DictPart}
use Rattle.algebra.specs.declared.shape.Shape.{Shape}
use Rattle.algebra.specs.DictLaws.{dict_part}
use Rattle.algebra.specs.Folds.{had}
use Rattle.algebra.specs.FoldLaws.{last-had}
use Rattle.algebra.specs.Growth.{Grows, Has}
use Rattle.algebra.specs.GrowthLaws.{is-at, val-is, grows-length, shape-kept, val-kept, has-shape, has-same}
use Rattle.algebra.specs.Mapping.{new_number, IsMapped}
use Rattle.algebra.specs.Nodes.{IsPlan}
use Rattle.algebra.specs.Operators.{op, with_found}
use Rattle.algebra.specs.Shapes.{columns, shape_by, no_shape, shapes_of, IsOpen}
use Rattle.algebra.specs.Values.{val, value_after}
use Rattle.share_plan.specs.Putting.{IsOpenAt, Keeps, IsFound}

-- a node that is there
pub is_node : (nodes : List Node) (n : ℕ) (node : Node) → slice_get nodes n ≡ Some node → node ≡ get_or nodes n node
is_node nodes n node is = sym (get_or_from_slice_get nodes n node node is)

abbrev pub width_at : List Node → ℕ → ℕ
width_at nodes n = (get_or (shapes_of nodes) n no_shape).width

module _ (nodes : List Node) (plan : IsPlan nodes) (m input column : ℕ) (dicts : List ℕ) (is : slice_get nodes m ≡ Some (Dict input column dicts)) where
  m_below : m < length nodes
  m_below = slice_get_within nodes m (Dict input column dicts) is

  -- its shape and its rows
  pub dict_shape : get_or (shapes_of nodes) m no_shape ≡ shape_by (Dict input column dicts) (get_or (shapes_of nodes) input no_shape) no_shape
  dict_shape = (is-at nodes m (Dict input column dicts) plan m_below (is_node nodes m (Dict input column dicts) is)).stands.has.shaped

  pub dict_rows : (lists : Lists) (doc : Doc) → val lists doc nodes m ≡ op lists doc (Dict input column dicts) (val lists doc nodes input) []
  dict_rows lists doc = val-is lists doc nodes m (Dict input column dicts) plan m_below (is_node nodes m (Dict input column dicts) is)

  module _ (number d : ℕ) (listed : slice_get dicts number ≡ Some d) where
    part_width : columns ((get_or (shapes_of nodes) m no_shape).width - 1) ≡ columns (width_at nodes input + 1)
    part_width = ap (λ (s : Shape). columns (s.width - 1)) dict_shape ∙ ap (λ (n : ℕ). columns n) (two_less (width_at nodes input))
      where
        two_less : (n : ℕ) → n + 2 - 1 ≡ n + 1
        two_less n = omega arith

    part_rows : (lists : Lists) (doc : Doc) → op lists doc (DictPart m number) (val lists doc nodes m) [] ≡ with_found lists doc (dict column d) (val lists doc nodes input)
    part_rows lists doc =
        ap (λ (rows : Rows). op lists doc (DictPart m number) rows []) (dict_rows lists doc)
        ∙ dict_part lists doc input column dicts m number d (val lists doc nodes input) [] [] (slice_get_within dicts number d listed) listed

    -- a part that would be put behind the nodes has what its dictionary finds
    pub shape_behind : had no_shape shape_by (shapes_of nodes) (DictPart m number) ≡ columns (width_at nodes input + 1)
    shape_behind = part_width

    pub rows_behind : (lists : Lists) (doc : Doc) → value_after lists doc nodes (DictPart m number) ≡ with_found lists doc (dict column d) (val lists doc nodes input)
    rows_behind lists doc = part_rows lists doc

    -- and so has a part that is there
    pub part_found : (n : ℕ) → slice_get nodes n ≡ Some (DictPart m number) → IsFound nodes nodes n input column d
    part_found n at =
        let below = slice_get_within nodes n (DictPart m number) at in
        let here = is_node nodes n (DictPart m number) at in
        record {
          there = below;
          shaped = (is-at nodes n (DictPart m number) plan below here).stands.has.shaped ∙ part_width;
          same = λ lists doc. SameBag-is _ _ (val-is lists doc nodes n (DictPart m number) plan below here ∙ part_rows lists doc);
        }

-- ---- nodes that have stayed

pub keeps_grows : (old new : List Node) → Grows old new → Keeps old new
keeps_grows old new g = record {
  long = grows-length old new g;
  shaped = λ n below opens. shape-kept old new n g below;
  same = λ lists doc n below opens. val-kept lists doc old new n g below;
}

pub keeps_trans : (a b c : List Node) → Keeps a b → Keeps b c → Keeps a c
keeps_trans a b c first second = record {
  long = omega (arith, first.long, second.long);
  shaped = λ n below opens.
      let still : IsOpenAt b n = subst (λ (s : Shape). IsOpen s) (sym (first.shaped n below opens)) opens in
      second.shaped n (omega (arith, below, first.long)) still ∙ first.shaped n below opens;
  same = λ lists doc n below opens.
      let still : IsOpenAt b n = subst (λ (s : Shape). IsOpen s) (sym (first.shaped n below opens)) opens in
      second.same lists doc n (omega (arith, below, first.long)) still ∙ first.same lists doc n below opens;
}

-- what is found in a node that stayed is what was found in it
pub found_kept : (a b c : List Node) (n input column d : ℕ) → Keeps a b → input < length a → IsOpenAt a input → IsFound b c n input column d → IsFound a c n input column d
found_kept a b c n input column d keeps below opens found =
    has-shape c n (columns (width_at b input + 1)) (columns (width_at a input + 1)) (λ lists doc. with_found lists doc (dict column d) (val lists doc a input))
    (ap (λ (s : Shape). columns (s.width + 1)) (keeps.shaped input below opens))
    (has-same c n (columns (width_at b input + 1)) (λ lists doc. with_found lists doc (dict column d) (val lists doc b input)) (λ lists doc. with_found lists doc (dict column d) (val lists doc a input))
    (λ lists doc. SameBag-is _ _ (ap (λ (rows : Rows). with_found lists doc (dict column d) rows) (keeps.same lists doc input below opens))) found)

-- ---- old nodes and those that stand for them

module _ (all old new : List Node) (to : List ℕ) (mapped : IsMapped (IsOpenAt all) old new to)
    (as_all : (i : ℕ) → i < length old → get_or (shapes_of old) i no_shape ≡ get_or (shapes_of all) i no_shape) where
  open_still : (i : ℕ) → i < length to → IsOpenAt all i → IsOpenAt new (new_number to i)
  open_still i below opens =
      subst (λ (s : Shape). IsOpen s) (sym (mapped.shaped i below opens ∙ as_all i (omega (arith, below, mapped.long)))) opens

  -- they stand for them behind nodes that keep them
  pub mapped_keeps : (later : List Node) → Keeps new later → IsMapped (IsOpenAt all) old later to
  mapped_keeps later keeps = record {
    long = mapped.long;
    there = λ i below opens. omega (arith, mapped.there i below opens, keeps.long);
    shaped = λ i below opens. keeps.shaped (new_number to i) (mapped.there i below opens) (open_still i below opens) ∙ mapped.shaped i below opens;
    same = λ lists doc i below opens.
        SameBag-trans _ _ _ (SameBag-is _ _ (keeps.same lists doc (new_number to i) (mapped.there i below opens) (open_still i below opens))) (mapped.same lists doc i below opens);
  }

-- one old node more, with the node that has its shape and its rows
module _ (Kept : ℕ → Type 0) (old new : List Node) (to : List ℕ) (mapped : IsMapped Kept old new to) (node : Node) (n : ℕ)
    (has : Kept (length old) → Has new n (had no_shape shape_by (shapes_of old) node) (λ lists doc. value_after lists doc old node)) where
  look_kept : (i : ℕ) → i < length to → new_number (to ++ n ∷ []) i ≡ new_number to i
  look_kept i below = get_or_append_left to (n ∷ []) 0 i below

  look_last : (i : ℕ) → i ≡ length to → new_number (to ++ n ∷ []) i ≡ n
  look_last i last = get_or_at to n [] 0 i (sym last)

  last_one : (i : ℕ) → i < length (to ++ n ∷ []) → (i < length to) ⊎ (i ≡ length to)
  last_one i below = elim (cases_lt i (length to)) [
    | inl h ↦ inl h
    | inr h ↦ inr (omega (arith, h, below, length-append to (n ∷ [])))
  ]

  pub mapped_has : IsMapped Kept (old ++ node ∷ []) new (to ++ n ∷ [])
  mapped_has =
      let push : Grows old (old ++ node ∷ []) = record { added = node ∷ []; grown = refl } in
      let last : length to ≡ length old = mapped.long in
      record {
        long = omega (arith, last, length-append to (n ∷ []), length-append old (node ∷ []));
        there = λ i below kept. elim (last_one i below) [
          | inl h ↦ omega (arith, look_kept i h, mapped.there i h kept)
          | inr h ↦ omega (arith, look_last i h, (has (subst Kept (h ∙ last) kept)).there)
        ];
        shaped = λ i below kept. elim (last_one i below) [
          | inl h ↦ ap (λ k. get_or (shapes_of new) k no_shape) (look_kept i h)
              ∙ (mapped.shaped i h kept ∙ sym (shape-kept old (old ++ node ∷ []) i push (omega (arith, h, last))))
          | inr h ↦ ap (λ k. get_or (shapes_of new) k no_shape) (look_last i h)
              ∙ ((has (subst Kept (h ∙ last) kept)).shaped
              ∙ (sym (last-had no_shape shape_by old node) ∙ ap (λ k. get_or (shapes_of (old ++ node ∷ [])) k no_shape) (sym (h ∙ last))))
        ];
        same = λ lists doc i below kept. elim (last_one i below) [
          | inl h ↦ SameBag-trans _ _ _ (SameBag-is _ _ (ap (val lists doc new) (look_kept i h)))
              (SameBag-trans _ _ _ (mapped.same lists doc i h kept) (SameBag-is _ _ (sym (val-kept lists doc old (old ++ node ∷ []) i push (omega (arith, h, last))))))
          | inr h ↦ SameBag-trans _ _ _ (SameBag-is _ _ (ap (val lists doc new) (look_last i h)))
              (SameBag-trans _ _ _ ((has (subst Kept (h ∙ last) kept)).same lists doc)
              (SameBag-is _ _ (sym (last-had [] (op lists doc) old node) ∙ ap (val lists doc (old ++ node ∷ [])) (sym (h ∙ last)))))
        ];
      }
