-- Nodes that are put together anew, each column searched for dictionaries once: what holds after some of them.
use Rattle.std.proofs.Common.{◌≡◌, ◌∙◌, ℕ, ◌+◌, ◌<◌, ◌⊎◌, inl, inr, List, [], ◌∷◌, ◌++◌, length, map, get_or, slice_get, take, drop, refl, sym, ap, subst, arith, Option, Some}
use Rattle.std.proofs.lemmas.Bool.{cases_lt}
use Rattle.std.proofs.lemmas.List.{map-id, length-append, get_or_append_left, get_or_at}
use Rattle.std.proofs.lemmas.Option.{slice_get_within, get_or_from_slice_get, slice_get-get_or}
use Rattle.aql_base.specs.BagLaws.{SameBag-is, SameBag-trans, SameBag-flat_map}
use Rattle.aql_typed.specs.Trees.{dict}
use Rattle.algebra.specs.declared.node.Node.{Node}
use Rattle.algebra.specs.declared.node.Node.TheVariants.{Doc, Dict, DictPart}
use Rattle.algebra.specs.declared.shape.Shape.{Shape}
use Rattle.algebra.specs.Folds.{of_input, had}
use Rattle.algebra.specs.FoldLaws.{length-each, front-kept, all-at}
use Rattle.algebra.specs.Growth.{Has}
use Rattle.algebra.specs.GrowthLaws.{is-at, has-same, has-shape}
use Rattle.algebra.specs.Inputs.{left_input, right_input, with_inputs, IsAmong}
use Rattle.algebra.specs.Mapping.{new_number, IsMapped}
use Rattle.algebra.specs.MappingLaws.{node-renamed, mapped-push, mapped-skip}
use Rattle.algebra.specs.Nodes.{IsNode, IsPlan}
use Rattle.algebra.specs.NodeLaws.{plan-at, plan-front, split_at, valid-kept}
use Rattle.algebra.specs.Operators.{followed, with_found}
use Rattle.algebra.specs.Shapes.{columns, shape_by, no_shape, shapes_of, IsOpen, HasDictNumberForm}
use Rattle.algebra.specs.Values.{val, value_after}
use Rattle.share_plan.specs.declared.kind.Kind.{Kind}
use Rattle.share_plan.specs.declared.kind.Kind.TheVariants.{Source, Part, Plain}
use Rattle.share_plan.specs.Indexes.{Key, IsIndex}
use Rattle.share_plan.specs.Kinds.{kind_of}
use Rattle.share_plan.specs.Renumbering.{IsPart}
use Rattle.share_plan.specs.Putting.{IsOpenAt, Extends, IsFoundOrPut, IsPartAt, IsFound, HasSource, MayPut, IsPut}
use Rattle.share_plan.proofs.Extending.{front_or_last, front_stays}
use Rattle.share_plan.proofs.Finding.{there_in_front}
use Rattle.share_plan.proofs.Moving.{AreMoved, ComeFrom, IsLikeAt, moved_itself, moved_later, moved-more, from-more}
use Rattle.share_plan.proofs.KindLaws.{is_of_kind, renamed_kind, kind-renamed, has_numbers, plain-source, source-part, open_inputs, open_shape}
use Rattle.share_plan.proofs.Parts.{is_node, width_at, shape_behind, rows_behind, mapped_keeps, mapped_has}

-- each `Dict` node so far waits among the sources, reading the node that stands for its input
abbrev pub AreSourced : List Node → List Node → List ℕ → Type 0
AreSourced yielded sources to =
    (k i c : ℕ) (dicts : List ℕ) → slice_get yielded k ≡ Some (Dict i c dicts) → slice_get sources (new_number to k) ≡ Some (Dict (new_number to i) c dicts)

-- the nodes so far of a plan, what stands for them, and the `Dict` nodes among them
pub record IsShared (all yielded nodes sources : List Node) (to : List ℕ) (keys : List Key) : Type 0 where
  pub mapped : IsMapped (IsOpenAt all) yielded nodes to
  pub index : IsIndex nodes keys
  pub sourced : AreSourced yielded sources to
  pub moved : AreMoved (IsOpenAt all) yielded nodes to
  pub from : ComeFrom (IsOpenAt all) nodes to

-- the plan, where some of its nodes were taken
pub taken : (nodes yielded : List Node) (node : Node) → map (λ x. x) yielded ≡ take (length yielded) nodes → length yielded < length nodes → node ≡ get_or nodes (length yielded) node
    → nodes ≡ yielded ++ node ∷ drop (length yielded + 1) nodes
taken nodes yielded node so_far below is =
    let i = length yielded in
    let front : take i nodes ≡ yielded = sym so_far ∙ map-id yielded in
    split_at nodes i node below is ∙ ap (λ (xs : List Node). xs ++ node ∷ drop (i + 1) nodes) front

module _ (all yielded nodes sources : List Node) (to : List ℕ) (keys : List Key) (shared : IsShared all yielded nodes sources to keys)
    (node : Node) (rest : List Node) (whole : all ≡ yielded ++ node ∷ rest) (plan : IsPlan all) where
  abbrev look : ℕ → ℕ
  look i = new_number to i

  abbrev Kept : ℕ → Type 0
  Kept i = IsOpenAt all i

  plan_whole : IsPlan (yielded ++ node ∷ rest)
  plan_whole = subst IsPlan whole plan

  plan_so_far : IsPlan yielded
  plan_so_far = plan-front yielded (node ∷ rest) plan_whole

  valid : IsNode (shapes_of yielded) node
  valid = plan-at yielded node rest plan_whole

  in_all : (other : Node) → IsNode (shapes_of yielded) other → IsNode (shapes_of all) other
  in_all other is = subst (λ (whole_plan : List Node). IsNode (shapes_of whole_plan) other) (sym whole) (valid-kept yielded (node ∷ rest) other is)

  as_all : (i : ℕ) → i < length yielded → get_or (shapes_of yielded) i no_shape ≡ get_or (shapes_of all) i no_shape
  as_all i below =
      sym (front-kept no_shape shape_by yielded (node ∷ rest) i below) ∙ ap (λ (whole_plan : List Node). get_or (shapes_of whole_plan) i no_shape) (sym whole)

  long : length to ≡ length yielded
  long = shared.mapped.long

  among_to : (o : Option ℕ) → IsAmong (length (shapes_of yielded)) o → IsAmong (length to) o
  among_to o among = subst (λ (n : ℕ). IsAmong n o) (length-each no_shape shape_by yielded ∙ sym long) among

  -- its inputs have numbers
  pub left_there : IsAmong (length to) (left_input node)
  left_there = among_to (left_input node) valid.left_below

  pub right_there : IsAmong (length to) (right_input node)
  right_there = among_to (right_input node) valid.right_below

  below_yielded : (i : ℕ) → i < length (shapes_of yielded) → i < length yielded
  below_yielded i below = omega (arith, below, length-each no_shape shape_by yielded)

  -- ---- the `Dict` node that a part reads

  pub record Searches (k p : ℕ) : Type 0 where
    pub input : ℕ
    pub column : ℕ
    pub dicts : List ℕ
    pub at : slice_get yielded k ≡ Some (Dict input column dicts)
    pub listed : p < length dicts
    pub fits : IsNode (shapes_of yielded) (Dict input column dicts)

  searched : (k p : ℕ) → node ≡ DictPart k p → Searches k p
  searched k p is =
      let part : IsNode (shapes_of yielded) (DictPart k p) = subst (IsNode (shapes_of yielded)) is valid in
      let below : k < length yielded = below_yielded k part.left_below in
      let x = get_or yielded k Doc in
      let at_x : slice_get yielded k ≡ Some x = slice_get-get_or yielded k Doc below in
      let here = is-at yielded k x plan_so_far below (is_node yielded k x at_x) in
      let listed : HasDictNumberForm (had no_shape shape_by (shapes_of yielded) x).form p = subst (λ (s : Shape). HasDictNumberForm s.form p) here.stands.has.shaped part.made.listed in
      let d = has_numbers (of_input no_shape (shapes_of yielded) (left_input x)) (of_input no_shape (shapes_of yielded) (right_input x)) p x listed in
      record {
        input = d.0;
        column = d.1;
        dicts = d.2;
        at = at_x ∙ ap (λ (n : Node). Some n) d.3;
        listed = d.4;
        fits = subst (IsNode (shapes_of yielded)) d.3 here.valid;
      }

  module _ (k p : ℕ) (s : Searches k p) where
    opens : Kept s.input
    opens = (open_inputs (shapes_of all) (Dict s.input s.column s.dicts) Source refl (in_all (Dict s.input s.column s.dicts) s.fits)).left

    input_below : s.input < length to
    input_below = omega (arith, below_yielded s.input s.fits.left_below, long)

    source_there : HasSource sources (look k) p
    source_there = record {
      input = look s.input;
      column = s.column;
      dicts = s.dicts;
      source = shared.sourced k s.input s.column s.dicts s.at;
      listed = s.listed;
    }

    source_fits : IsNode (shapes_of nodes) (Dict (look s.input) s.column [])
    source_fits =
        let renamed : IsNode (shapes_of nodes) (Dict (look s.input) s.column s.dicts) =
        node-renamed Kept yielded nodes to shared.mapped (Dict s.input s.column s.dicts) s.fits
        (open_inputs (shapes_of all) (Dict s.input s.column s.dicts) Source refl (in_all (Dict s.input s.column s.dicts) s.fits)) in
        record { left_below = renamed.left_below; right_below = renamed.right_below; made = renamed.made }

    -- what is found in the node that stands for its input has the part's shape and rows
    found_has : (later : List Node) (n d : ℕ) → slice_get s.dicts p ≡ Some d → IsFound nodes later n (look s.input) s.column d
        → Has later n (had no_shape shape_by (shapes_of yielded) (DictPart k p)) (λ lists doc. value_after lists doc yielded (DictPart k p))
    found_has later n d listed found =
        let same_width : get_or (shapes_of nodes) (look s.input) no_shape ≡ get_or (shapes_of yielded) s.input no_shape = shared.mapped.shaped s.input input_below opens in
        let shape : columns (width_at nodes (look s.input) + 1) ≡ had no_shape shape_by (shapes_of yielded) (DictPart k p) =
        ap (λ (sh : Shape). columns (sh.width + 1)) same_width ∙ sym (shape_behind yielded plan_so_far k s.input s.column s.dicts s.at p d listed) in
        has-shape later n (columns (width_at nodes (look s.input) + 1)) (had no_shape shape_by (shapes_of yielded) (DictPart k p)) (λ lists doc. value_after lists doc yielded (DictPart k p)) shape
        (has-same later n (columns (width_at nodes (look s.input) + 1)) (λ lists doc. with_found lists doc (dict s.column d) (val lists doc nodes (look s.input))) (λ lists doc. value_after lists doc yielded (DictPart k p))
        (λ lists doc. SameBag-trans _ _ _
        (SameBag-flat_map (followed lists doc (dict s.column d)) (val lists doc nodes (look s.input)) (val lists doc yielded s.input) (shared.mapped.same lists doc s.input input_below opens))
        (SameBag-is _ _ (sym (rows_behind yielded plan_so_far k s.input s.column s.dicts s.at p d listed lists doc)))) found)

  -- ---- the node may be put

  may_by : (kind : Kind) → kind_of node ≡ kind → MayPut sources nodes (renamed_kind look kind) (with_inputs look node)
  unfolding source_there searched
  may_by Source e = tt
  may_by (Part k p) e =
      let s = searched k p (is_of_kind node (Part k p) e) in
      (source_there k p s, source_fits k p s)
  may_by Plain e = node-renamed Kept yielded nodes to shared.mapped node valid (open_inputs (shapes_of all) node Plain e (in_all node valid))

  pub may_be_put : MayPut sources nodes (kind_of (with_inputs look node)) (with_inputs look node)
  may_be_put = subst (λ (kind : Kind). MayPut sources nodes kind (with_inputs look node)) (sym (kind-renamed look node)) (may_by (kind_of node) refl)

  -- ---- after it was put

  module _ (later : List Node) (n : ℕ)
      (stay : (s : ℕ) (x : Node) → slice_get sources s ≡ Some x → slice_get later s ≡ Some x)
      (last : (i c : ℕ) (dicts : List ℕ) → node ≡ Dict i c dicts → slice_get later n ≡ Some (Dict (look i) c dicts)) where
    old_number : (i : ℕ) → i < length to → new_number (to ++ n ∷ []) i ≡ look i
    old_number i below = get_or_append_left to (n ∷ []) 0 i below

    of_front : (k i c : ℕ) (dicts : List ℕ) → k < length yielded → slice_get (yielded ++ node ∷ []) k ≡ Some (Dict i c dicts)
        → slice_get later (new_number (to ++ n ∷ []) k) ≡ Some (Dict (new_number (to ++ n ∷ []) i) c dicts)
    of_front k i c dicts below at =
        let here : slice_get yielded k ≡ Some (Dict i c dicts) = sym (there_in_front Doc yielded (node ∷ []) k below) ∙ at in
        let lower : i < k = (is-at yielded k (Dict i c dicts) plan_so_far below (is_node yielded k (Dict i c dicts) here)).left_lower in
        ap (λ (s : ℕ). slice_get later s) (old_number k (omega (arith, below, long)))
        ∙ (stay (look k) (Dict (look i) c dicts) (shared.sourced k i c dicts here)
        ∙ ap (λ (j : ℕ). Some (Dict j c dicts)) (sym (old_number i (omega (arith, lower, below, long)))))

    of_last : (k i c : ℕ) (dicts : List ℕ) → k ≡ length yielded → slice_get (yielded ++ node ∷ []) k ≡ Some (Dict i c dicts)
        → slice_get later (new_number (to ++ n ∷ []) k) ≡ Some (Dict (new_number (to ++ n ∷ []) i) c dicts)
    of_last k i c dicts is at =
        let here : node ≡ Dict i c dicts = sym (get_or_at yielded node [] node k (sym is)) ∙ get_or_from_slice_get (yielded ++ node ∷ []) k (Dict i c dicts) node at in
        let fits : IsNode (shapes_of yielded) (Dict i c dicts) = subst (IsNode (shapes_of yielded)) here valid in
        ap (λ (s : ℕ). slice_get later s) (get_or_at to n [] 0 k (omega (arith, is, long)))
        ∙ (last i c dicts here ∙ ap (λ (j : ℕ). Some (Dict j c dicts)) (sym (old_number i (omega (arith, below_yielded i fits.left_below, long)))))

    sourced_more : AreSourced (yielded ++ node ∷ []) later (to ++ n ∷ [])
    sourced_more k i c dicts at = elim (cases_lt k (length yielded)) [
      | inl h ↦ of_front k i c dicts h at
      | inr h ↦ of_last k i c dicts (omega (arith, h, slice_get_within (yielded ++ node ∷ []) k (Dict i c dicts) at, length-append yielded (node ∷ []))) at
    ]

  module _ (later after : List Node) (n : ℕ) (later_keys : List Key) (index : IsIndex after later_keys) where
    abbrev IsNext : Type 0
    IsNext = IsShared all (yielded ++ node ∷ []) after later (to ++ n ∷ []) later_keys

    -- where the sources stay and the node is no `Dict` node
    others_stay : later ≡ sources → (kind : Kind) → kind_of node ≡ kind → (kind ≡ Source → ⊥) → AreSourced (yielded ++ node ∷ []) later (to ++ n ∷ [])
    others_stay same kind e other =
        sourced_more later n
        (λ s x at. ap (λ (list : List Node). slice_get list s) same ∙ at)
        (λ i c dicts is. absurd (other (sym e ∙ ap (λ (x : Node). kind_of x) is)))

    -- ---- old nodes among the new ones

    renamed_plain : kind_of node ≡ Plain → kind_of (with_inputs look node) ≡ Plain
    renamed_plain e = kind-renamed look node ∙ ap (renamed_kind look) e

    plain_open : kind_of node ≡ Plain → Kept (length yielded)
    plain_open e =
        let here : get_or (shapes_of (yielded ++ node ∷ rest)) (length yielded) no_shape ≡ had no_shape shape_by (shapes_of (yielded ++ node ∷ rest)) node =
        all-at no_shape shape_by yielded node rest
        (subst (λ (m : ℕ). IsAmong m (left_input node)) (length-each no_shape shape_by yielded) valid.left_below)
        (subst (λ (m : ℕ). IsAmong m (right_input node)) (length-each no_shape shape_by yielded) valid.right_below) in
        subst (λ (sh : Shape). IsOpen sh) (sym (ap (λ (list : List Node). get_or (shapes_of list) (length yielded) no_shape) whole ∙ here)) (open_shape node e _ _)

    plain_moved : kind_of node ≡ Plain → IsFoundOrPut nodes after n (with_inputs look node) → AreMoved Kept (yielded ++ node ∷ []) after (to ++ n ∷ [])
    plain_moved e found_or_put = moved-more Kept yielded nodes to plan_so_far long node after n shared.moved stay last
      where
        stay : (j : ℕ) (x : Node) → slice_get nodes j ≡ Some x → (kind_of x ≡ Source → ⊥) → slice_get after j ≡ Some x
        stay j x at other = elim found_or_put.put [
          | inl same ↦ ap (λ (list : List Node). slice_get list j) same ∙ at
          | inr more ↦ ap (λ (list : List Node). slice_get list j) more.0 ∙ front_stays nodes (with_inputs look node ∷ []) j x at
        ]

        last : Kept (length yielded) → IsLikeAt after (to ++ n ∷ []) n node
        last kept = (
          with_inputs look node,
          found_or_put.at,
          λ is. plain-source (sym (renamed_plain e) ∙ is),
          inl (
            e,
            moved_later to n (length yielded) node (with_inputs look node) (omega (arith, long))
                (subst (λ (m : ℕ). IsAmong m (left_input node)) (length-each no_shape shape_by yielded) valid.left_below)
                (subst (λ (m : ℕ). IsAmong m (right_input node)) (length-each no_shape shape_by yielded) valid.right_below) (moved_itself to node),
          ),
        )

    plain_from : kind_of node ≡ Plain → IsFoundOrPut nodes after n (with_inputs look node) → ComeFrom Kept after (to ++ n ∷ [])
    plain_from e found_or_put = from-more Kept yielded nodes to plan_so_far long node after n shared.from were
      where
        were : (j : ℕ) (x : Node) → slice_get after j ≡ Some x → kind_of x ≡ Plain → (slice_get nodes j ≡ Some x) ⊎ ((j ≡ n) × Kept (length yielded))
        were j x at plain = elim found_or_put.put [
          | inl same ↦ inl (ap (λ (list : List Node). slice_get list j) (sym same) ∙ at)
          | inr more ↦ elim (front_or_last nodes (with_inputs look node) j x (ap (λ (list : List Node). slice_get list j) (sym more.0) ∙ at)) [
            | inl h ↦ inl h
            | inr h ↦ inr (h.0 ∙ sym more.1, plain_open e)
          ]
        ]

    part_moved : (k p : ℕ) → kind_of node ≡ Part k p → Extends nodes after → IsPartAt after n → AreMoved Kept (yielded ++ node ∷ []) after (to ++ n ∷ [])
    part_moved k p e extends part = moved-more Kept yielded nodes to plan_so_far long node after n shared.moved extends.stay last
      where
        is : node ≡ DictPart k p
        is = is_of_kind node (Part k p) e

        last : Kept (length yielded) → IsLikeAt after (to ++ n ∷ []) n node
        last kept = (
          DictPart part.0 part.1,
          part.2,
          λ source. source-part part.0 part.1 (sym source),
          inr (subst IsPart (sym is) tt, tt),
        )

    next_plain : kind_of node ≡ Plain → (Plain ≡ Source → ⊥) → IsPut sources nodes later after n Plain (with_inputs look node) → IsNext
    next_plain e other put = record {
      mapped = mapped-push Kept yielded nodes to shared.mapped node after n valid (open_inputs (shapes_of all) node Plain e (in_all node valid)) put.1;
      index = index;
      sourced = others_stay put.0 Plain e other;
      moved = plain_moved e put.2;
      from = plain_from e put.2;
    }

    next_part : (k p : ℕ) → kind_of node ≡ Part k p → (Part k p ≡ Source → ⊥) → IsPut sources nodes later after n (Part (look k) p) (with_inputs look node) → IsNext
    next_part k p e other put =
        let is : node ≡ DictPart k p = is_of_kind node (Part k p) e in
        let s = searched k p is in
        let d = get_or s.dicts p 0 in
        let listed : slice_get s.dicts p ≡ Some d = slice_get-get_or s.dicts p 0 s.listed in
        let found = put.4 (look s.input) s.column d s.dicts (shared.sourced k s.input s.column s.dicts s.at) listed in
        let has : Has after n (had no_shape shape_by (shapes_of yielded) node) (λ lists doc. value_after lists doc yielded node) =
        subst (λ (x : Node). Has after n (had no_shape shape_by (shapes_of yielded) x) (λ lists doc. value_after lists doc yielded x)) (sym is) (found_has k p s after n d listed found) in
        record {
          mapped = mapped_has Kept yielded after to (mapped_keeps all yielded nodes to shared.mapped as_all after put.1) node n (λ kept. has);
          index = index;
          sourced = others_stay put.0 (Part k p) e other;
          moved = part_moved k p e put.2 put.3;
          from = from-more Kept yielded nodes to plan_so_far long node after n shared.from (λ j x at plain. inl (put.2.were j x at plain));
        }

    next_source : kind_of node ≡ Source → IsPut sources nodes later after n Source (with_inputs look node) → IsNext
    next_source e put =
        let s = is_of_kind node Source e in
        let here : get_or (shapes_of (yielded ++ node ∷ rest)) (length yielded) no_shape ≡ had no_shape shape_by (shapes_of (yielded ++ node ∷ rest)) node =
        all-at no_shape shape_by yielded node rest
        (subst (λ (m : ℕ). IsAmong m (left_input node)) (length-each no_shape shape_by yielded) valid.left_below)
        (subst (λ (m : ℕ). IsAmong m (right_input node)) (length-each no_shape shape_by yielded) valid.right_below) in
        let gone : Kept (length yielded) → ⊥ = λ kept.
        let shown : IsOpen (had no_shape shape_by (shapes_of (yielded ++ node ∷ rest)) node) =
        subst (λ (sh : Shape). IsOpen sh) (ap (λ (list : List Node). get_or (shapes_of list) (length yielded) no_shape) whole ∙ here) kept in
        subst (λ (x : Node). IsOpen (had no_shape shape_by (shapes_of (yielded ++ node ∷ rest)) x)) s.3 shown in
        record {
          mapped = subst (λ (list : List Node). IsMapped Kept (yielded ++ node ∷ []) list (to ++ n ∷ [])) (sym put.1) (mapped-skip Kept yielded nodes to shared.mapped node n gone);
          index = index;
          sourced = sourced_more later n
              (λ i x at. ap (λ (list : List Node). slice_get list i) put.0 ∙ (there_in_front Doc sources (with_inputs look node ∷ []) i (slice_get_within sources i x at) ∙ at))
              (λ i c dicts is.
              ap (λ (list : List Node). slice_get list n) put.0
              ∙ (slice_get-get_or (sources ++ with_inputs look node ∷ []) n Doc (omega (arith, put.2, length-append sources (with_inputs look node ∷ [])))
              ∙ (ap (λ (x : Node). Some x) (get_or_at sources (with_inputs look node) [] Doc n (sym put.2)) ∙ ap (λ (x : Node). Some (with_inputs look x)) is)));
          moved = moved-more Kept yielded nodes to plan_so_far long node after n shared.moved (λ j x at other. ap (λ (list : List Node). slice_get list j) put.1 ∙ at) (λ kept. absurd (gone kept));
          from = from-more Kept yielded nodes to plan_so_far long node after n shared.from (λ j x at plain. inl (ap (λ (list : List Node). slice_get list j) (sym put.1) ∙ at));
        }

    next_by : (kind : Kind) → kind_of node ≡ kind → IsPut sources nodes later after n (renamed_kind look kind) (with_inputs look node) → IsNext
    next_by Plain e put = next_plain e plain-source put
    next_by (Part k p) e put = next_part k p e (λ same. source-part k p (sym same)) put
    next_by Source e put = next_source e put

    pub one_more : IsPut sources nodes later after n (kind_of (with_inputs look node)) (with_inputs look node) → IsNext
    one_more put = next_by (kind_of node) refl (subst (λ (kind : Kind). IsPut sources nodes later after n kind (with_inputs look node)) (kind-renamed look node) put)
