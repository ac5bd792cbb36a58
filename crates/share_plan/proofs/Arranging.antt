-- The nodes of an order, put one after another: each is what it was, reading its inputs by their new numbers.
use Rattle.std.proofs.Common.{◌≡◌, ◌∙◌, ℕ, ◌<◌, ◌⊎◌, inl, inr, Bool, List, [], ◌∷◌, ◌++◌, length, set, get_or, slice_get, refl, sym, ap, subst, arith, Option, Some, None}
use Rattle.std.specs.List.{Contains}
use Rattle.std.specs.Option.{IfSome}
use Rattle.std.proofs.lemmas.List.{length-append, length-set, get_or-set_same, get_or-set_other}
use Rattle.std.proofs.lemmas.List.Elements.{Contains-append_left, Contains-push, Contains-push_cases}
use Rattle.std.proofs.lemmas.Option.{same_Some, slice_get_within, slice_get-get_or}
use Rattle.aql_base.specs.Bags.{SameBag}
use Rattle.aql_base.specs.BagLaws.{SameBag-is, SameBag-trans}
use Rattle.span_token.specs.Documents.{Doc as Document}
use Rattle.scalar_ops.specs.Tables.{Lists}
use Rattle.algebra.specs.declared.node.Node.{Node}
use Rattle.algebra.specs.FoldLaws.{last-had}
use Rattle.algebra.specs.Growth.{Stands, IsAt}
use Rattle.algebra.specs.GrowthLaws.{is-at, val-is, grows-length, shape-kept, val-kept}
use Rattle.algebra.specs.Inputs.{left_input, right_input, with_inputs, IsAmong}
use Rattle.algebra.specs.Mapping.{new_number, IsMapped, KeepsInputs}
use Rattle.algebra.specs.MappingLaws.{node-renamed, mapped-push}
use Rattle.algebra.specs.Nodes.{IsNode, IsPlan}
use Rattle.algebra.specs.Operators.{op}
use Rattle.algebra.specs.Shapes.{shape_by, no_shape, shapes_of}
use Rattle.algebra.specs.Values.{val}
use Rattle.share_plan.specs.Marks.{IsMovedBy, IsArranged, IsPruned}
use Rattle.share_plan.specs.Walks.{IsReady, IsOrder}
use Rattle.share_plan.proofs.Extending.{front_stays, at_last, same_at}
use Rattle.share_plan.proofs.Moving.{moved_itself, number_last}
use Rattle.share_plan.proofs.Parts.{is_node}
use Rattle.share_plan.proofs.Walking.{listed_at, contains_at, front_or_last}

pub arranged-none : (old : List Node) (to : List ℕ) → length to ≡ length old → IsArranged [] old [] to
arranged-none old to long = record {
  mapped = record {
    long = long;
    there = λ i below c. absurd (none i c);
    shaped = λ i below c. absurd (none i c);
    same = λ lists doc i below c. absurd (none i c);
  };
  moved = λ i before at c. absurd (none i c);
  closed = λ i before at c. absurd (none i c);
  long = refl;
  numbered = λ k i at. absurd (nothing k i at);
}
  where
    none : (i : ℕ) → Contains {X = ℕ} [] i → ⊥
    none i c = omega (arith, c.1)

    nothing : (k i : ℕ) → slice_get {X = ℕ} [] k ≡ Some i → ⊥
    nothing k i at = let below = slice_get_within [] k i at in omega (arith, below)

keeps_all : (P Q : ℕ → Type 0) (node : Node) → ((i : ℕ) → P i → Q i) → KeepsInputs P node → KeepsInputs Q node
keeps_all P Q node weaker keeps = record { left = each (left_input node) keeps.left; right = each (right_input node) keeps.right }
  where
    each : (o : Option ℕ) → IfSome o P → IfSome o Q
    each None holds = tt
    each (Some i) holds = weaker i holds

-- ---- one node more

module _ (order : List ℕ) (old new : List Node) (to : List ℕ) (so_far : IsArranged order old new to) (plan : IsPlan old) (i : ℕ) (ready : IsReady old order i) where
  abbrev node : Node
  node = ready.node

  below : i < length old
  below = slice_get_within old i node ready.at

  here : IsAt old i node
  here = is-at old i node plan below (is_node old i node ready.at)

  keeps : KeepsInputs (Contains order) node
  keeps = record { left = ready.left; right = ready.right }

  among_to : (o : Option ℕ) → IsAmong i o → IsAmong (length to) o
  among_to None among = tt
  among_to (Some j) among = omega (arith, among, below, so_far.mapped.long)

  -- the inputs of the node have numbers
  pub left_numbered : IsAmong (length to) (left_input node)
  left_numbered = among_to (left_input node) here.left_lower

  pub right_numbered : IsAmong (length to) (right_input node)
  right_numbered = among_to (right_input node) here.right_lower

  pub may_be_put : IsNode (shapes_of new) (with_inputs (new_number to) node)
  may_be_put = node-renamed (Contains order) old new to so_far.mapped node here.valid keeps

  abbrev after : Node
  after = with_inputs (new_number to) node

  module _ (later : List Node) (n : ℕ) (stands : Stands new later n after) where
    -- what stands for the node has what it has
    abbrev OrLast : ℕ → Type 0
    OrLast j = Contains order j ⊎ (j ≡ length old)

    or_last : IsMapped OrLast old new to
    or_last = record {
      long = so_far.mapped.long;
      there = λ j low kept. so_far.mapped.there j low (listed j low kept);
      shaped = λ j low kept. so_far.mapped.shaped j low (listed j low kept);
      same = λ lists doc j low kept. so_far.mapped.same lists doc j low (listed j low kept);
    }
      where
        listed : (j : ℕ) → j < length to → OrLast j → Contains order j
        listed j low (inl c) = c
        listed j low (inr last) = absurd (omega (arith, low, last, so_far.mapped.long))

    pushed : IsMapped OrLast (old ++ node ∷ []) later (to ++ n ∷ [])
    pushed = mapped-push OrLast old new to or_last node later n here.valid (keeps_all (Contains order) OrLast node (λ j c. inl c) keeps) stands

    at_end : length old < length (to ++ n ∷ [])
    at_end = omega (arith, length-append to (n ∷ []), so_far.mapped.long)

    number_end : new_number (to ++ n ∷ []) (length old) ≡ n
    number_end = ap (new_number (to ++ n ∷ [])) (sym so_far.mapped.long) ∙ number_last to n

    shaped : get_or (shapes_of later) n no_shape ≡ get_or (shapes_of old) i no_shape
    shaped =
        ap (λ (k : ℕ). get_or (shapes_of later) k no_shape) (sym number_end)
        ∙ (pushed.shaped (length old) at_end (inr refl) ∙ (last-had no_shape shape_by old node ∙ sym here.stands.has.shaped))

    same : (lists : Lists) (doc : Document) → SameBag (val lists doc later n) (val lists doc old i)
    same lists doc =
        SameBag-trans _ _ _ (SameBag-is _ _ (ap (val lists doc later) (sym number_end)))
        (SameBag-trans _ _ _ (pushed.same lists doc (length old) at_end (inr refl))
        (SameBag-is _ _ (last-had [] (op lists doc) old node ∙ sym (val-is lists doc old i node plan below (is_node old i node ready.at)))))

    abbrev later_to : List ℕ
    later_to = set to i n

    number_here : new_number later_to i ≡ n
    number_here = get_or-set_same to i n 0 (omega (arith, below, so_far.mapped.long))

    number_stays : (j : ℕ) → Contains order j → new_number later_to j ≡ new_number to j
    number_stays j c = get_or-set_other to i j n 0 (λ e. ready.fresh (subst (Contains order) e c))

    named : (number : ℕ → ℕ) (o : Option ℕ) → IfSome o (Contains order) → IfSome o (λ j. new_number to j ≡ number j) → IfSome o (λ j. new_number later_to j ≡ number j)
    named number None kept is = tt
    named number (Some j) kept is = number_stays j kept ∙ is

    moved_on : (before x : Node) → KeepsInputs (Contains order) before → IsMovedBy to before x → IsMovedBy later_to before x
    moved_on before x kept moved = record {
      number = moved.number;
      same = moved.same;
      left = named moved.number (left_input before) kept.left moved.left;
      right = named moved.number (right_input before) kept.right moved.right;
    }

    -- node j was there, or is the new one
    was_or_is : (j : ℕ) → Contains (order ++ i ∷ []) j → Contains order j ⊎ (j ≡ i)
    was_or_is j c = elim (Contains-push_cases order i j c) [
      | inl h ↦ inl h
      | inr h ↦ inr (sym h)
    ]

    pub arranged-push : n ≡ length new → later ≡ new ++ after ∷ [] → IsArranged (order ++ i ∷ []) old later later_to
    arranged-push last put = record {
      mapped = record {
        long = length-set to i n ∙ so_far.mapped.long;
        there = λ j low c. elim (was_or_is j c) [
          | inl h ↦ omega (arith, number_stays j h, so_far.mapped.there j (old_low j low) h, grows-length new later stands.grows)
          | inr h ↦ omega (arith, ap (new_number later_to) h, number_here, stands.has.there)
        ];
        shaped = λ j low c. elim (was_or_is j c) [
          | inl h ↦ ap (λ (k : ℕ). get_or (shapes_of later) k no_shape) (number_stays j h)
              ∙ (shape-kept new later (new_number to j) stands.grows (so_far.mapped.there j (old_low j low) h) ∙ so_far.mapped.shaped j (old_low j low) h)
          | inr h ↦ ap (λ (k : ℕ). get_or (shapes_of later) k no_shape) (ap (new_number later_to) h ∙ number_here)
              ∙ (shaped ∙ ap (λ (k : ℕ). get_or (shapes_of old) k no_shape) (sym h))
        ];
        same = λ lists doc j low c. elim (was_or_is j c) [
          | inl h ↦ SameBag-trans _ _ _ (SameBag-is _ _ (ap (val lists doc later) (number_stays j h) ∙ val-kept lists doc new later (new_number to j) stands.grows (so_far.mapped.there j (old_low j low) h)))
              (so_far.mapped.same lists doc j (old_low j low) h)
          | inr h ↦ SameBag-trans _ _ _ (SameBag-is _ _ (ap (val lists doc later) (ap (new_number later_to) h ∙ number_here)))
              (SameBag-trans _ _ _ (same lists doc) (SameBag-is _ _ (ap (val lists doc old) (sym h))))
        ];
      };
      moved = λ j before at c. elim (was_or_is j c) [
        | inl h ↦
            let m = so_far.moved j before at h in
            (m.0, ap (λ (k : ℕ). slice_get later k) (number_stays j h) ∙ stay (new_number to j) m.0 m.1, moved_on before m.0 (so_far.closed j before at h) m.2)
        | inr h ↦
            let is : node ≡ before = same_at old i node before ready.at (ap (λ (k : ℕ). slice_get old k) (sym h) ∙ at) in
            (after, ap (λ (k : ℕ). slice_get later k) (ap (new_number later_to) h ∙ number_here) ∙ there, subst (λ (x : Node). IsMovedBy later_to x after) is (moved_on node after keeps (moved_itself to node)))
      ];
      closed = λ j before at c. elim (was_or_is j c) [
        | inl h ↦ keeps_all (Contains order) (Contains (order ++ i ∷ [])) before wider (so_far.closed j before at h)
        | inr h ↦
            let is : node ≡ before = same_at old i node before ready.at (ap (λ (k : ℕ). slice_get old k) (sym h) ∙ at) in
            keeps_all (Contains order) (Contains (order ++ i ∷ [])) before wider (subst (KeepsInputs (Contains order)) is keeps)
      ];
      long = omega (arith, ap length put, length-append new (after ∷ []), length-append order (i ∷ []), so_far.long);
      numbered = λ k j at. elim (front_or_last order i k j at) [
        | inl h ↦ number_stays j (contains_at order k j h.at) ∙ so_far.numbered k j h.at
        | inr h ↦
            ap (new_number later_to) h.is ∙ (number_here ∙ (last ∙ (so_far.long ∙ sym h.index)))
      ];
    }
      where
        old_low : (j : ℕ) → j < length later_to → j < length to
        old_low j low = omega (arith, low, length-set to i n)

        wider : (j : ℕ) → Contains order j → Contains (order ++ i ∷ []) j
        wider j c = Contains-append_left order (i ∷ []) j c

        stay : (k : ℕ) (x : Node) → slice_get new k ≡ Some x → slice_get later k ≡ Some x
        stay k x at = ap (λ (list : List Node). slice_get list k) put ∙ front_stays new (after ∷ []) k x at

        there : slice_get later n ≡ Some after
        there = ap (λ (list : List Node). slice_get list n) put ∙ (ap (λ (k : ℕ). slice_get (new ++ after ∷ []) k) last ∙ at_last new after)

-- ---- nodes that are left while others are taken out

-- a node that isn't among those of the order is left where it was
abbrev pub AreLeft : List ℕ → List Node → List Node → Type 0
AreLeft order old rest = (i : ℕ) (node : Node) → slice_get old i ≡ Some node → (Contains order i → ⊥) → slice_get rest i ≡ Some node

pub left-more : (order : List ℕ) (old rest later : List Node) (i : ℕ) → AreLeft order old rest → ((k : ℕ) → (k ≡ i → ⊥) → slice_get later k ≡ slice_get rest k) → AreLeft (order ++ i ∷ []) old later
left-more order old rest later i left others j node at not =
    others j (λ e. not (subst (Contains (order ++ i ∷ [])) (sym e) (Contains-push order i))) ∙ left j node at (λ c. not (Contains-append_left order (i ∷ []) j c))

-- ---- the whole order

module _ (marks : List Bool) (old new : List Node) (shown order to : List ℕ) (is : IsOrder old shown order marks) (arranged : IsArranged order old new to) where
  pub arranged-pruned : IsPruned marks old new to
  arranged-pruned = record {
    mapped = record {
      long = arranged.mapped.long;
      there = λ i below marked. arranged.mapped.there i below (is.walked.listed i marked);
      shaped = λ i below marked. arranged.mapped.shaped i below (is.walked.listed i marked);
      same = λ lists doc i below marked. arranged.mapped.same lists doc i below (is.walked.listed i marked);
    };
    moved = λ i before at marked. arranged.moved i before at (is.walked.listed i marked);
    from = λ n below.
        let i = get_or order n 0 in
        let at : slice_get order n ≡ Some i = slice_get-get_or order n 0 (omega (arith, below, arranged.long)) in
        let ready = is.walked.ready n i at in
        (i, omega (arith, slice_get_within old i ready.node ready.at, arranged.mapped.long), is.walked.marked i (contains_at order n i at), arranged.numbered n i at);
    apart = λ i j a b e.
        let p = listed_at order i (is.walked.listed i a) in
        let q = listed_at order j (is.walked.listed j b) in
        let same : p.0 ≡ q.0 = sym (arranged.numbered p.0 i p.1) ∙ (e ∙ arranged.numbered q.0 j q.1) in
        same_Some i j (sym p.1 ∙ (ap (slice_get order) same ∙ q.1));
  }
