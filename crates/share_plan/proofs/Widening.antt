-- A `Dict` node with one dictionary more: every other node keeps its shape, and its rows on each document.
use Rattle.std.proofs.Common.{◌≡◌, ◌∙◌, ℕ, ◌+◌, ◌-◌, ◌<◌, ◌≤◌, ◌⊎◌, inl, inr, List, [], ◌∷◌, ◌++◌, length, get_or, slice_get, refl, sym, ap, ap₂, subst, arith, Option, Some, None}
use Rattle.std.specs.Option.{IfSome}
use Rattle.std.proofs.lemmas.Bool.{cases_lt}
use Rattle.std.proofs.lemmas.List.{length-append, get_or_append_left, get_or_at}
use Rattle.std.proofs.lemmas.Option.{slice_get-get_or}
use Rattle.span_token.specs.Documents.{Doc}
use Rattle.scalar_ops.specs.Tables.{Lists}
use Rattle.aql_typed.specs.Trees.{dict}
use Rattle.aql_typed.specs.Meaning.{Rows}
use Rattle.algebra.specs.declared.node.Node.{Node}
use Rattle.algebra.specs.declared.node.Node.TheVariants.{Dict, DictPart}
use Rattle.algebra.specs.declared.shape.Form.{Form}
use Rattle.algebra.specs.declared.shape.Form.TheVariants.{Marked}
use Rattle.algebra.specs.declared.shape.Shape.{Shape}
use Rattle.algebra.specs.DictLaws.{part-marked}
use Rattle.algebra.specs.Folds.{of_input, had, all_from}
use Rattle.algebra.specs.FoldLaws.{all-append, length-each}
use Rattle.algebra.specs.Inputs.{left_input, right_input, IsAmong}
use Rattle.algebra.specs.Mapping.{KeepsInputs}
use Rattle.algebra.specs.Nodes.{IsNode, ArePlanned, IsPlan}
use Rattle.algebra.specs.NodeLaws.{plan-at}
use Rattle.algebra.specs.Operators.{op, with_found}
use Rattle.algebra.specs.Shapes.{columns, shape_by, no_shape, shapes_of, IsOpen, IsOpenForm, HasDictNumber, HasDictNumberForm, IsMade}
use Rattle.scalar_ops.specs.Extractions.{of_some}
use Rattle.share_plan.specs.declared.kind.Kind.{Kind}
use Rattle.share_plan.specs.declared.kind.Kind.TheVariants.{Source, Part, Plain}
use Rattle.share_plan.specs.Kinds.{kind_of}
use Rattle.share_plan.specs.Putting.{Keeps}
use Rattle.share_plan.proofs.KindLaws.{is_of_kind, open_inputs}

-- whether two numbers are one
either : (i m : ℕ) → (i ≡ m) ⊎ (i ≡ m → ⊥)
either i m = elim (cases_lt i m) [
  | inl h ↦ inr (λ e. omega (arith, h, e))
  | inr h ↦ elim (cases_lt m i) [
    | inl k ↦ inr (λ e. omega (arith, k, e))
    | inr k ↦ inl (omega (arith, h, k))
  ]
]

-- node m of nodes with these shapes has so many dictionaries
abbrev pub HasDictNumbers : List Shape → ℕ → ℕ → Type 0
HasDictNumbers shapes m count = (get_or shapes m no_shape).form ≡ Marked count

-- its rows aren't open
apart_from_open : (shapes : List Shape) (m count i : ℕ) → HasDictNumbers shapes m count → IsOpen (get_or shapes i no_shape) → i ≡ m → ⊥
apart_from_open shapes m count i marked opens e = subst IsOpenForm (ap (λ (k : ℕ). (get_or shapes k no_shape).form) e ∙ marked) opens

-- ---- two lists that are equal but at m, and what nodes have by them

module _ {A : Type 0} (nothing : A) (m : ℕ) (v w : A) where
  pub record AreAlike (all each : List A) : Type 0 where
    pub long : length each ≡ length all
    pub there : m < length all
    pub first : get_or all m nothing ≡ v
    pub second : get_or each m nothing ≡ w
    pub others : (i : ℕ) → i < length all → (i ≡ m → ⊥) → get_or each i nothing ≡ get_or all i nothing

  one_more : (all : List A) (x : A) (i : ℕ) → i < length (all ++ x ∷ []) → (i < length all) ⊎ (i ≡ length all)
  one_more all x i below = elim (cases_lt i (length all)) [
    | inl h ↦ inl h
    | inr h ↦ inr (omega (arith, h, below, length-append all (x ∷ [])))
  ]

  alike_push : (all each : List A) (x y : A) → AreAlike all each → y ≡ x → AreAlike (all ++ x ∷ []) (each ++ y ∷ [])
  alike_push all each x y alike e = record {
    long = omega (arith, alike.long, length-append all (x ∷ []), length-append each (y ∷ []));
    there = omega (arith, alike.there, length-append all (x ∷ []));
    first = get_or_append_left all (x ∷ []) nothing m alike.there ∙ alike.first;
    second = get_or_append_left each (y ∷ []) nothing m (omega (arith, alike.there, alike.long)) ∙ alike.second;
    others = λ i below apart. elim (one_more all x i below) [
      | inl h ↦ get_or_append_left each (y ∷ []) nothing i (omega (arith, h, alike.long))
          ∙ (alike.others i h apart ∙ sym (get_or_append_left all (x ∷ []) nothing i h))
      | inr h ↦ get_or_at each y [] nothing i (omega (arith, h, alike.long)) ∙ (e ∙ sym (get_or_at all x [] nothing i (sym h)))
    ];
  }

module _ {A : Type 0} (nothing : A) (rule : Node → A → A → A) (m : ℕ) (v w : A) (count : ℕ)
    (parts : (k p : ℕ) (other : A) → p < count → rule (DictPart k p) v other ≡ rule (DictPart k p) w other) where
  module _ (shapes : List Shape) (all each : List A) (alike : AreAlike nothing m v w all each) (long : length shapes ≡ length all) (marked : HasDictNumbers shapes m count) where
    same_input : (o : Option ℕ) → IsAmong (length shapes) o → IfSome o (λ i. IsOpen (get_or shapes i no_shape)) → of_input nothing each o ≡ of_input nothing all o
    same_input None among opens = refl
    same_input (Some i) among opens = alike.others i (omega (arith, among, long)) (apart_from_open shapes m count i marked opens)

    same_by_inputs : (node : Node) → IsNode shapes node → KeepsInputs (λ i. IsOpen (get_or shapes i no_shape)) node → had nothing rule each node ≡ had nothing rule all node
    same_by_inputs node valid opens =
        ap₂ (λ (a b : A). rule node a b) (same_input (left_input node) valid.left_below opens.left) (same_input (right_input node) valid.right_below opens.right)

    same_part : (k p : ℕ) → IsNode shapes (DictPart k p) → had nothing rule each (DictPart k p) ≡ had nothing rule all (DictPart k p)
    same_part k p valid = elim (either k m) [
      | inl e ↦
          let listed : HasDictNumberForm (get_or shapes m no_shape).form p = subst (λ (i : ℕ). HasDictNumberForm (get_or shapes i no_shape).form p) e valid.made.listed in
          let below : p < count = subst (λ (form : Form). HasDictNumberForm form p) marked listed in
          ap (λ (i : ℕ). rule (DictPart k p) (get_or each i nothing) nothing) e
          ∙ (ap (λ (x : A). rule (DictPart k p) x nothing) alike.second
          ∙ (sym (parts k p nothing below)
          ∙ (ap (λ (x : A). rule (DictPart k p) x nothing) (sym alike.first)
          ∙ ap (λ (i : ℕ). rule (DictPart k p) (get_or all i nothing) nothing) (sym e))))
      | inr apart ↦ ap (λ (x : A). rule (DictPart k p) x nothing) (alike.others k (omega (arith, valid.left_below, long)) apart)
    ]

    -- a node has the same by both
    same_had : (node : Node) → IsNode shapes node → had nothing rule each node ≡ had nothing rule all node
    same_had node valid = by (kind_of node) refl
      where
        by : (kind : Kind) → kind_of node ≡ kind → had nothing rule each node ≡ had nothing rule all node
        by Source e = same_by_inputs node valid (open_inputs shapes node Source e valid)
        by Plain e = same_by_inputs node valid (open_inputs shapes node Plain e valid)
        by (Part k p) e =
            let is : node ≡ DictPart k p = is_of_kind node (Part k p) e in
            subst (λ (n : Node). had nothing rule each n ≡ had nothing rule all n) (sym is) (same_part k p (subst (IsNode shapes) is valid))

  marked_push : (shapes : List Shape) (shape : Shape) → m < length shapes → HasDictNumbers shapes m count → HasDictNumbers (shapes ++ shape ∷ []) m count
  marked_push shapes shape below marked = ap (λ (s : Shape). s.form) (get_or_append_left shapes (shape ∷ []) no_shape m below) ∙ marked

  -- and so have all nodes that are put behind
  pub all_alike : (shapes : List Shape) (all each : List A) (nodes : List Node) → ArePlanned shapes nodes → length shapes ≡ length all → HasDictNumbers shapes m count → AreAlike nothing m v w all each
      → AreAlike nothing m v w (all_from nothing rule all nodes) (all_from nothing rule each nodes)
  all_alike shapes all each [] planned long marked alike = alike
  all_alike shapes all each (node ∷ nodes) planned long marked alike =
      let shape = had no_shape shape_by shapes node in
      let x = had nothing rule all node in
      let y = had nothing rule each node in
      all_alike (shapes ++ shape ∷ []) (all ++ x ∷ []) (each ++ y ∷ []) nodes planned.1
      (omega (arith, long, length-append shapes (shape ∷ []), length-append all (x ∷ [])))
      (marked_push shapes shape (omega (arith, long, alike.there)) marked)
      (alike_push nothing m v w all each x y alike (same_had shapes all each alike long marked node planned.0))

-- ---- the shapes, and that the nodes stay a plan

module _ (m : ℕ) (v w : Shape) (count more : ℕ) (most : count ≤ more) (v_marked : v.form ≡ Marked count) (w_marked : w.form ≡ Marked more) (wide : w.width ≡ v.width) where
  parts_wide : (k p : ℕ) (other : Shape) → p < count → shape_by (DictPart k p) v other ≡ shape_by (DictPart k p) w other
  parts_wide k p other below = ap (λ (n : ℕ). columns (n - 1)) (sym wide)

  module _ (all each : List Shape) (alike : AreAlike no_shape m v w all each) where
    marked_first : HasDictNumbers all m count
    marked_first = ap (λ (s : Shape). s.form) alike.first ∙ v_marked

    among_each : (o : Option ℕ) → IsAmong (length all) o → IsAmong (length each) o
    among_each o among = subst (λ (n : ℕ). IsAmong n o) (sym alike.long) among

    made_by_inputs : (node : Node) → IsNode all node → KeepsInputs (λ i. IsOpen (get_or all i no_shape)) node
        → IsMade node (of_input no_shape each (left_input node)) (of_input no_shape each (right_input node))
    made_by_inputs node valid opens =
        rw (
          same_input no_shape shape_by m v w count parts_wide all all each alike refl marked_first (left_input node) valid.left_below opens.left,
          same_input no_shape shape_by m v w count parts_wide all all each alike refl marked_first (right_input node) valid.right_below opens.right,
        ) valid.made

    made_part : (k p : ℕ) → IsNode all (DictPart k p) → HasDictNumber (get_or each k no_shape) p
    made_part k p valid = elim (either k m) [
      | inl e ↦
          let made : HasDictNumber (get_or all m no_shape) p = subst (λ (i : ℕ). HasDictNumber (get_or all i no_shape) p) e valid.made in
          let first : HasDictNumber v p = subst (λ (s : Shape). HasDictNumber s p) alike.first made in
          let below : p < count = subst (λ (form : Form). HasDictNumberForm form p) v_marked first.listed in
          let listed : HasDictNumberForm w.form p = subst (λ (form : Form). HasDictNumberForm form p) (sym w_marked) (omega (arith, below, most)) in
          let here : HasDictNumber w p = record { listed = listed; room = omega (arith, first.room, wide) } in
          subst (λ (i : ℕ). HasDictNumber (get_or each i no_shape) p) (sym e) (subst (λ (s : Shape). HasDictNumber s p) (sym alike.second) here)
      | inr apart ↦ subst (λ (s : Shape). HasDictNumber s p) (sym (alike.others k valid.left_below apart)) valid.made
    ]

    valid_each : (node : Node) → IsNode all node → IsNode each node
    valid_each node valid = by (kind_of node) refl
      where
        with_made : IsMade node (of_input no_shape each (left_input node)) (of_input no_shape each (right_input node)) → IsNode each node
        with_made made = record {
          left_below = among_each (left_input node) valid.left_below;
          right_below = among_each (right_input node) valid.right_below;
          made = made;
        }

        by : (kind : Kind) → kind_of node ≡ kind → IsNode each node
        by Source e = with_made (made_by_inputs node valid (open_inputs all node Source e valid))
        by Plain e = with_made (made_by_inputs node valid (open_inputs all node Plain e valid))
        by (Part k p) e =
            let is : node ≡ DictPart k p = is_of_kind node (Part k p) e in
            let made : IsMade (DictPart k p) (of_input no_shape each (left_input (DictPart k p))) (of_input no_shape each (right_input (DictPart k p))) = made_part k p (subst (IsNode all) is valid) in
            with_made (subst (λ (n : Node). IsMade n (of_input no_shape each (left_input n)) (of_input no_shape each (right_input n))) (sym is) made)

  planned_alike : (all each : List Shape) (nodes : List Node) → AreAlike no_shape m v w all each → ArePlanned all nodes → ArePlanned each nodes
  planned_alike all each [] alike planned = tt
  planned_alike all each (node ∷ nodes) alike planned =
      let marked : HasDictNumbers all m count = marked_first all each alike in (
        valid_each all each alike node planned.0,
        planned_alike (all ++ had no_shape shape_by all node ∷ []) (each ++ had no_shape shape_by each node ∷ []) nodes
            (alike_push no_shape m v w all each (had no_shape shape_by all node) (had no_shape shape_by each node) alike
            (same_had no_shape shape_by m v w count parts_wide all all each alike refl marked node planned.0)) planned.1,
      )

-- ---- a plan with a dictionary more

module _ (xs ys : List Node) (input column d : ℕ) (dicts : List ℕ) (plan : IsPlan (xs ++ Dict input column dicts ∷ ys)) where
  abbrev before : Node
  before = Dict input column dicts

  abbrev after : Node
  after = Dict input column (dicts ++ d ∷ [])

  abbrev old : List Node
  old = xs ++ before ∷ ys

  abbrev new : List Node
  new = xs ++ after ∷ ys

  abbrev shape_before : Shape
  shape_before = had no_shape shape_by (shapes_of xs) before

  abbrev shape_after : Shape
  shape_after = had no_shape shape_by (shapes_of xs) after

  more_dicts : length dicts ≤ length (dicts ++ d ∷ [])
  more_dicts = omega (arith, length-append dicts (d ∷ []))

  -- what stands behind the node may stand behind the other
  planned_behind : (shapes : List Shape) (front : List Node) → ArePlanned shapes (front ++ before ∷ ys)
      → ArePlanned (all_from no_shape shape_by shapes front ++ had no_shape shape_by (all_from no_shape shape_by shapes front) before ∷ []) ys
  planned_behind shapes [] planned = planned.1
  planned_behind shapes (x ∷ front) planned = planned_behind (shapes ++ had no_shape shape_by shapes x ∷ []) front planned.1

  abbrev parts_of_shapes : (k p : ℕ) (other : Shape) → p < length dicts → shape_by (DictPart k p) shape_before other ≡ shape_by (DictPart k p) shape_after other
  parts_of_shapes = parts_wide (length xs) shape_before shape_after (length dicts) (length (dicts ++ d ∷ [])) more_dicts refl refl refl

  alike_begin : {A : Type 0} (nothing : A) (rule : Node → A → A → A)
      → AreAlike nothing (length xs) (had nothing rule (all_from nothing rule [] xs) before) (had nothing rule (all_from nothing rule [] xs) after)
      (all_from nothing rule [] xs ++ had nothing rule (all_from nothing rule [] xs) before ∷ []) (all_from nothing rule [] xs ++ had nothing rule (all_from nothing rule [] xs) after ∷ [])
  alike_begin {A} nothing rule =
      let all = all_from nothing rule [] xs in
      let v = had nothing rule all before in
      let w = had nothing rule all after in
      record {
        long = omega (arith, length-append all (v ∷ []), length-append all (w ∷ []));
        there = omega (arith, length-append all (v ∷ []), length-each nothing rule xs);
        first = get_or_at all v [] nothing (length xs) (length-each nothing rule xs);
        second = get_or_at all w [] nothing (length xs) (length-each nothing rule xs);
        others = λ i below apart.
            let short : i < length all = lower i (length all) (length xs) (length-each nothing rule xs) (omega (arith, below, length-append all (v ∷ []))) apart in
            get_or_append_left all (w ∷ []) nothing i short ∙ sym (get_or_append_left all (v ∷ []) nothing i short);
      }
    where
      lower : (i n m : ℕ) → n ≡ m → i < n + 1 → (i ≡ m → ⊥) → i < n
      lower i n m e below apart = elim (cases_lt i n) [
        | inl h ↦ h
        | inr h ↦ absurd (apart (omega (arith, h, below, e)))
      ]

  abbrev shapes_before : List Shape
  shapes_before = shapes_of xs ++ shape_before ∷ []

  abbrev shapes_after : List Shape
  shapes_after = shapes_of xs ++ shape_after ∷ []

  shapes_begin : AreAlike no_shape (length xs) shape_before shape_after shapes_before shapes_after
  shapes_begin = alike_begin no_shape shape_by

  behind : ArePlanned shapes_before ys
  behind = planned_behind [] xs plan

  marked_begin : HasDictNumbers shapes_before (length xs) (length dicts)
  marked_begin = ap (λ (s : Shape). s.form) shapes_begin.first

  widened_node : IsNode (shapes_of xs) after
  widened_node =
      let valid : IsNode (shapes_of xs) before = plan-at xs before ys plan in
      record { left_below = valid.left_below; right_below = valid.right_below; made = valid.made }

  plan_from : (shapes : List Shape) (front : List Node) → ArePlanned shapes (front ++ before ∷ ys) → IsNode (all_from no_shape shape_by shapes front) after
      → ArePlanned (all_from no_shape shape_by shapes front ++ had no_shape shape_by (all_from no_shape shape_by shapes front) after ∷ []) ys → ArePlanned shapes (front ++ after ∷ ys)
  plan_from shapes [] planned valid rest = (valid, rest)
  plan_from shapes (x ∷ front) planned valid rest = (planned.0, plan_from (shapes ++ had no_shape shape_by shapes x ∷ []) front planned.1 valid rest)

  -- the nodes stay a plan
  pub widened-plan : IsPlan new
  widened-plan =
      plan_from [] xs plan widened_node
      (planned_alike (length xs) shape_before shape_after (length dicts) (length (dicts ++ d ∷ [])) more_dicts refl refl refl shapes_before shapes_after ys shapes_begin behind)

  shapes_alike : AreAlike no_shape (length xs) shape_before shape_after (shapes_of old) (shapes_of new)
  shapes_alike =
      let alike = all_alike no_shape shape_by (length xs) shape_before shape_after (length dicts) parts_of_shapes shapes_before shapes_before shapes_after ys behind refl marked_begin shapes_begin in
      subst (λ (each : List Shape). AreAlike no_shape (length xs) shape_before shape_after (shapes_of old) each) (sym (all-append no_shape shape_by [] xs (after ∷ ys)))
      (subst (λ (all : List Shape). AreAlike no_shape (length xs) shape_before shape_after all (all_from no_shape shape_by shapes_after ys)) (sym (all-append no_shape shape_by [] xs (before ∷ ys))) alike)

  module _ (lists : Lists) (doc : Doc) where
    abbrev in_front : List Rows
    in_front = all_from [] (op lists doc) [] xs

    abbrev rows_before : Rows
    rows_before = had [] (op lists doc) in_front before

    abbrev rows_after : Rows
    rows_after = had [] (op lists doc) in_front after

    kept_number : (p : ℕ) → p < length dicts → slice_get (dicts ++ d ∷ []) p ≡ slice_get dicts p
    kept_number p below =
        slice_get-get_or (dicts ++ d ∷ []) p 0 (omega (arith, below, length-append dicts (d ∷ [])))
        ∙ (ap (λ (n : ℕ). Some n) (get_or_append_left dicts (d ∷ []) 0 p below) ∙ sym (slice_get-get_or dicts p 0 below))

    parts_of_rows : (k p : ℕ) (other : Rows) → p < length dicts → op lists doc (DictPart k p) rows_before other ≡ op lists doc (DictPart k p) rows_after other
    parts_of_rows k p other below =
        let rows = of_input [] in_front (Some input) in
        part-marked lists doc column dicts p rows below
        ∙ (ap (λ (o : Option ℕ). of_some (λ e. with_found lists doc (dict column e) rows) o) (sym (kept_number p below))
        ∙ sym (part-marked lists doc column (dicts ++ d ∷ []) p rows (omega (arith, below, length-append dicts (d ∷ [])))))

    rows_alike : AreAlike [] (length xs) rows_before rows_after (all_from [] (op lists doc) [] old) (all_from [] (op lists doc) [] new)
    rows_alike =
        let long : length shapes_before ≡ length (in_front ++ rows_before ∷ []) =
        omega (arith, length-append (shapes_of xs) (shape_before ∷ []), length-append in_front (rows_before ∷ []), length-each no_shape shape_by xs, length-each [] (op lists doc) xs) in
        let alike = all_alike [] (op lists doc) (length xs) rows_before rows_after (length dicts) parts_of_rows shapes_before (in_front ++ rows_before ∷ []) (in_front ++ rows_after ∷ []) ys behind long marked_begin
        (alike_begin [] (op lists doc)) in
        subst (λ (each : List Rows). AreAlike [] (length xs) rows_before rows_after (all_from [] (op lists doc) [] old) each) (sym (all-append [] (op lists doc) [] xs (after ∷ ys)))
        (subst (λ (all : List Rows). AreAlike [] (length xs) rows_before rows_after all (all_from [] (op lists doc) (in_front ++ rows_after ∷ []) ys)) (sym (all-append [] (op lists doc) [] xs (before ∷ ys))) alike)

  marked_here : HasDictNumbers (shapes_of old) (length xs) (length dicts)
  marked_here = ap (λ (s : Shape). s.form) shapes_alike.first

  -- every node whose rows any node may read has its shape and its rows
  pub widened-keeps : Keeps old new
  widened-keeps = record {
    long = omega (arith, length-append xs (before ∷ ys), length-append xs (after ∷ ys));
    shaped = λ n below opens. shapes_alike.others n (omega (arith, below, length-each no_shape shape_by old)) (apart_from_open (shapes_of old) (length xs) (length dicts) n marked_here opens);
    same = λ lists doc n below opens.
        (rows_alike lists doc).others n (omega (arith, below, length-each [] (op lists doc) old)) (apart_from_open (shapes_of old) (length xs) (length dicts) n marked_here opens);
  }
