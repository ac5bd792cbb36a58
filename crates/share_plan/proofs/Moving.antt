-- Old nodes among the new ones, as nodes are put together anew: each reads its inputs by their new numbers.
use Rattle.std.proofs.Common.{◌≡◌, ◌∙◌, ℕ, ◌<◌, ◌≤◌, ◌⊎◌, inl, inr, List, [], ◌∷◌, ◌++◌, length, get_or, slice_get, refl, sym, ap, subst, arith, Option, Some, None}
use Rattle.std.specs.Option.{IfSome}
use Rattle.std.proofs.lemmas.List.{length-append, get_or_append_left, get_or_at}
use Rattle.std.proofs.lemmas.Option.{slice_get_within, get_or_from_slice_get, slice_get-get_or}
use Rattle.algebra.specs.declared.node.Node.{Node}
use Rattle.algebra.specs.declared.node.Node.TheVariants.{Dict, DictPart}
use Rattle.algebra.specs.declared.shape.Form.{Form}
use Rattle.algebra.specs.declared.shape.Form.TheVariants.{Document, Marked, Plain as Unmarked}
use Rattle.algebra.specs.declared.shape.Shape.{Shape}
use Rattle.algebra.specs.FoldLaws.{length-each}
use Rattle.algebra.specs.GrowthLaws.{is-at}
use Rattle.algebra.specs.Inputs.{left_input, right_input, with_inputs, IsAmong}
use Rattle.algebra.specs.Mapping.{new_number, IsMapped}
use Rattle.algebra.specs.Nodes.{IsPlan}
use Rattle.algebra.specs.Shapes.{shape_by, no_shape, shapes_of, IsOpen, IsOpenForm}
use Rattle.share_plan.specs.declared.kind.Kind.TheVariants.{Source, Plain}
use Rattle.share_plan.specs.Kinds.{kind_of}
use Rattle.share_plan.specs.Marks.{IsMovedBy}
use Rattle.share_plan.specs.Putting.{IsOpenAt}
use Rattle.share_plan.specs.Renumbering.{IsPart, IsPlain, IsMoved, IsRenumbered}
use Rattle.share_plan.proofs.Extending.{front_or_last}
use Rattle.share_plan.proofs.KindLaws.{open_inputs}
use Rattle.share_plan.proofs.Parts.{is_node}

-- it is moved, or both are parts
abbrev pub IsLike : List ℕ → Node → Node → Type 0
IsLike to before after = (kind_of before ≡ Plain × IsMovedBy to before after) ⊎ (IsPart before × IsPart after)

-- node n is like this one, and no `Dict` node
abbrev pub IsLikeAt : List Node → List ℕ → ℕ → Node → Type 0
IsLikeAt nodes to n before = (after : Node) × (slice_get nodes n ≡ Some after) × (kind_of after ≡ Source → ⊥) × IsLike to before after

-- each old node of a kind that is kept has one that is like it
abbrev pub AreMoved : (ℕ → Type 0) → List Node → List Node → List ℕ → Type 0
AreMoved Kept old new to = (i : ℕ) (before : Node) → slice_get old i ≡ Some before → Kept i → IsLikeAt new to (new_number to i) before

-- each new node but `Dict` nodes and parts is one of these
abbrev pub ComeFrom : (ℕ → Type 0) → List Node → List ℕ → Type 0
ComeFrom Kept new to = (n : ℕ) (after : Node) → slice_get new n ≡ Some after → kind_of after ≡ Plain → (i : ℕ) × (i < length to) × Kept i × (new_number to i ≡ n)

-- a node reads what it reads by itself
pub moved_itself : (to : List ℕ) (node : Node) → IsMovedBy to node (with_inputs (new_number to) node)
moved_itself to node = record { number = new_number to; same = refl; left = each (left_input node); right = each (right_input node) }
  where
    each : (o : Option ℕ) → IfSome o (λ i. new_number to i ≡ new_number to i)
    each None = tt
    each (Some i) = refl

-- ---- one number more

module _ (to : List ℕ) (n : ℕ) where
  pub number_before : (i : ℕ) → i < length to → new_number (to ++ n ∷ []) i ≡ new_number to i
  number_before i below = get_or_append_left to (n ∷ []) 0 i below

  pub number_last : new_number (to ++ n ∷ []) (length to) ≡ n
  number_last = get_or_at to n [] 0 (length to) refl

  named_later : (number : ℕ → ℕ) (k : ℕ) (o : Option ℕ) → k ≤ length to → IsAmong k o → IfSome o (λ i. new_number to i ≡ number i) → IfSome o (λ i. new_number (to ++ n ∷ []) i ≡ number i)
  named_later number k None most among named = tt
  named_later number k (Some i) most among named = number_before i (omega (arith, most, among)) ∙ named

  pub moved_later : (k : ℕ) (before after : Node) → k ≤ length to → IsAmong k (left_input before) → IsAmong k (right_input before) → IsMovedBy to before after → IsMovedBy (to ++ n ∷ []) before after
  moved_later k before after most left right moved = record {
    number = moved.number;
    same = moved.same;
    left = named_later moved.number k (left_input before) most left moved.left;
    right = named_later moved.number k (right_input before) most right moved.right;
  }

  like_later : (k : ℕ) (before after : Node) → k ≤ length to → IsAmong k (left_input before) → IsAmong k (right_input before) → IsLike to before after → IsLike (to ++ n ∷ []) before after
  like_later k before after most left right (inl h) = inl (h.0, moved_later k before after most left right h.1)
  like_later k before after most left right (inr h) = inr h

-- ---- one node more

module _ (Kept : ℕ → Type 0) (old new : List Node) (to : List ℕ) (plan : IsPlan old) (long : length to ≡ length old) (node : Node) (later : List Node) (n : ℕ) where
  pub moved-more : AreMoved Kept old new to → ((k : ℕ) (x : Node) → slice_get new k ≡ Some x → (kind_of x ≡ Source → ⊥) → slice_get later k ≡ Some x)
      → (Kept (length old) → IsLikeAt later (to ++ n ∷ []) n node) → AreMoved Kept (old ++ node ∷ []) later (to ++ n ∷ [])
  moved-more moved stay last i before at kept = elim (front_or_last old node i before at) [
    | inl h ↦
        let was = moved i before h kept in
        let below : i < length old = slice_get_within old i before h in
        let here = is-at old i before plan below (is_node old i before h) in
        let number : new_number (to ++ n ∷ []) i ≡ new_number to i = number_before to n i (omega (arith, below, long)) in (
          was.0,
          ap (λ (k : ℕ). slice_get later k) number ∙ stay (new_number to i) was.0 was.1 was.2,
          was.2,
          like_later to n i before was.0 (omega (arith, below, long)) here.left_lower here.right_lower was.3,
        )
    | inr h ↦
        let number : new_number (to ++ n ∷ []) i ≡ n = ap (new_number (to ++ n ∷ [])) (h.0 ∙ sym long) ∙ number_last to n in
        subst (λ (k : ℕ). IsLikeAt later (to ++ n ∷ []) k before) (sym number)
        (subst (λ (x : Node). IsLikeAt later (to ++ n ∷ []) n x) (sym h.1) (last (subst Kept h.0 kept)))
  ]

  pub from-more : ComeFrom Kept new to → ((k : ℕ) (x : Node) → slice_get later k ≡ Some x → kind_of x ≡ Plain → (slice_get new k ≡ Some x) ⊎ ((k ≡ n) × Kept (length old)))
      → ComeFrom Kept later (to ++ n ∷ [])
  from-more from were k x at plain = elim (were k x at plain) [
    | inl h ↦
        let was = from k x h plain in
        (was.0, omega (arith, was.1, length-append to (n ∷ [])), was.2, number_before to n was.0 was.1 ∙ was.3)
    | inr h ↦ (
      length to,
      omega (arith, length-append to (n ∷ [])),
      subst Kept (sym long) h.1,
      number_last to n ∙ sym h.0,
    )
  ]

-- ---- the numbers of those nodes of a plan that any node may read

abbrev numbered : Form → ℕ → Option ℕ
numbered Document n = Some n
numbered (Marked count) n = None
numbered Unmarked n = Some n

abbrev number_of : Option Shape → ℕ → Option ℕ
number_of None n = None
number_of (Some shape) n = numbered shape.form n

number_told : (form : Form) (n m : ℕ) → numbered form n ≡ Some m → IsOpenForm form × (n ≡ m)
number_told Document n m e = (tt, some_number n m e)
  where
    some_number : (a b : ℕ) → Some a ≡ Some b → a ≡ b
    some_number a b e = cc
number_told (Marked count) n m e = absurd (none_some m e)
  where
    none_some : (b : ℕ) → None ≡ Some b → ⊥
    none_some b e = cc
number_told Unmarked n m e = (tt, some_number n m e)
  where
    some_number : (a b : ℕ) → Some a ≡ Some b → a ≡ b
    some_number a b e = cc

number_given : (form : Form) (n : ℕ) → IsOpenForm form → numbered form n ≡ Some n
number_given Document n opens = refl
number_given (Marked count) n opens = absurd opens
number_given Unmarked n opens = refl

module _ (old new : List Node) (to : List ℕ) (plan : IsPlan old) (mapped : IsMapped (IsOpenAt old) old new to) (moved : AreMoved (IsOpenAt old) old new to) (from : ComeFrom (IsOpenAt old) new to) where
  abbrev to_number : ℕ → Option ℕ
  to_number i = number_of (slice_get (shapes_of old) i) (new_number to i)

  given : (i : ℕ) → i < length old → IsOpenAt old i → to_number i ≡ Some (new_number to i)
  given i below opens =
      ap (λ (o : Option Shape). number_of o (new_number to i)) (slice_get-get_or (shapes_of old) i no_shape (omega (arith, below, length-each no_shape shape_by old)))
      ∙ number_given (get_or (shapes_of old) i no_shape).form (new_number to i) opens

  -- a node that has a number
  pub record HasNumber (i n : ℕ) : Type 0 where
    pub below : i < length old
    pub opens : IsOpenAt old i
    pub is : new_number to i ≡ n

  told : (i n : ℕ) → to_number i ≡ Some n → HasNumber i n
  told i n e = by (slice_get (shapes_of old) i) refl
    where
      by : (o : Option Shape) → slice_get (shapes_of old) i ≡ o → HasNumber i n
      by None at = absurd (none_some n (sym (ap (λ (o : Option Shape). number_of o (new_number to i)) at) ∙ e))
        where
          none_some : (b : ℕ) → None ≡ Some b → ⊥
          none_some b e = cc
      by (Some shape) at =
          let t = number_told shape.form (new_number to i) n (sym (ap (λ (o : Option Shape). number_of o (new_number to i)) at) ∙ e) in
          record {
            below = omega (arith, slice_get_within (shapes_of old) i shape at, length-each no_shape shape_by old);
            opens = subst (λ (s : Shape). IsOpen s) (sym (get_or_from_slice_get (shapes_of old) i shape no_shape at)) t.0;
            is = t.1;
          }

  input_numbered : (k : ℕ) (number : ℕ → ℕ) (o : Option ℕ) → k ≤ length old → IsAmong k o → IfSome o (IsOpenAt old) → IfSome o (λ i. new_number to i ≡ number i) → IfSome o (λ i. to_number i ≡ Some (number i))
  input_numbered k number None most among opens named = tt
  input_numbered k number (Some i) most among opens named = given i (omega (arith, most, among)) opens ∙ ap (λ (m : ℕ). Some m) named

  renumbered_like : (i : ℕ) (before after : Node) → slice_get old i ≡ Some before → IsLike to before after → IsMoved to_number before after ⊎ (IsPart before × IsPart after)
  renumbered_like i before after at (inl h) =
      let below : i < length old = slice_get_within old i before at in
      let here = is-at old i before plan below (is_node old i before at) in
      let opens = open_inputs (shapes_of old) before Plain h.0 here.valid in
      inl (record {
        number = h.1.number;
        same = h.1.same;
        left = input_numbered i h.1.number (left_input before) (omega (arith, below)) here.left_lower opens.left h.1.left;
        right = input_numbered i h.1.number (right_input before) (omega (arith, below)) here.right_lower opens.right h.1.right;
      })
  renumbered_like i before after at (inr h) = inr h

  plain_kind : (node : Node) → IsPlain node → kind_of node ≡ Plain
  plain_kind (Dict i c dicts) plain = absurd plain
  plain_kind (DictPart i p) plain = absurd plain
  plain_kind node plain = refl

  pub open-renumbered : IsRenumbered old new
  open-renumbered = record {
    to = to_number;
    there = λ i n e. (told i n e).below;
    shaped = λ i n e.
        let t = told i n e in
        ap (λ (k : ℕ). get_or (shapes_of new) k no_shape) (sym t.is) ∙ mapped.shaped i (omega (arith, t.below, mapped.long)) t.opens;
    moved = λ i n before e at.
        let t = told i n e in
        let m = moved i before at t.opens in
        (m.0, ap (λ (k : ℕ). slice_get new k) (sym t.is) ∙ m.1, renumbered_like i before m.0 at m.3);
    from = λ n after at plain.
        let f = from n after at (plain_kind after plain) in
        (f.0, given f.0 (omega (arith, f.1, mapped.long)) f.2 ∙ ap (λ (k : ℕ). Some k) f.3);
  }
