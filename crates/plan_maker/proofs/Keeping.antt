-- Conditions may stand where they stood, when the nodes of a plan get other numbers.
use Rattle.std.proofs.Common.{◌≡◌, ◌∙◌, ℕ, ◌<◌, ◌⊎◌, inl, inr, List, [], get_or, slice_get, refl, sym, ap, subst, Option, Some}
use Rattle.std.specs.List.{All}
use Rattle.std.specs.Option.{IfSome}
use Rattle.std.proofs.lemmas.Option.{slice_get-get_or, slice_get_within, get_or_from_slice_get}
use Rattle.scalar_ops.specs.Expressions.{Term}
use Rattle.algebra.specs.declared.node.Node.{Node}
use Rattle.algebra.specs.declared.node.Node.TheVariants.{Doc, DictPart, Select, Project, Cross, SpanJoin, Union}
use Rattle.algebra.specs.declared.shape.Shape.{Shape}
use Rattle.algebra.specs.Inputs.{left_input, with_inputs}
use Rattle.push_select.specs.Pushed.{width_at, ReadsBoth, ReadsBothFreely, ShowsColumns, StandAbove, MayStand, ArePushed}
use Rattle.share_plan.specs.Renumbering.{IsPart, IsMoved, IsRenumbered}

some_same : (a b : Node) → Some a ≡ Some b → a ≡ b
some_same a b e = cc

-- what becomes a selection is one
abbrev IsSelection : Node → ℕ → List Term → (ℕ → ℕ) → Type 0
IsSelection before m conds number = (j : ℕ) × (before ≡ Select j conds) × (number j ≡ m)

abbrev is_selection : Node → Type 0
is_selection (Select i conds) = Unit {0}
is_selection node = ⊥

abbrev conds_of : Node → List Term
conds_of (Select i conds) = conds
conds_of node = []

abbrev input_of : Node → ℕ
input_of (Select i conds) = i
input_of node = 0

selection_before : (number : ℕ → ℕ) (before : Node) (m : ℕ) (conds : List Term) → Select m conds ≡ with_inputs number before → IsSelection before m conds number
selection_before number (Select j cs) m conds e = (j, ap (λ (ds : List Term). Select j ds) (sym (ap conds_of e)), sym (ap input_of e))
selection_before number node m conds e = absurd (subst is_selection e tt)

-- what becomes a projection is one of the same items
abbrev IsProjection : Node → ℕ → List Term → (ℕ → ℕ) → Type 0
IsProjection before m items number = (j : ℕ) × (before ≡ Project j items) × (number j ≡ m)

abbrev is_projection : Node → Type 0
is_projection (Project i items) = Unit {0}
is_projection node = ⊥

abbrev items_of : Node → List Term
items_of (Project i items) = items
items_of node = []

abbrev source_of : Node → ℕ
source_of (Project i items) = i
source_of node = 0

projection_before : (number : ℕ → ℕ) (before : Node) (m : ℕ) (items : List Term) → Project m items ≡ with_inputs number before → IsProjection before m items number
projection_before number (Project j ts) m items e = (j, ap (λ (us : List Term). Project j us) (sym (ap items_of e)), sym (ap source_of e))
projection_before number node m items e = absurd (subst is_projection e tt)

-- what shows plain columns showed them
shown_before : (number : ℕ → ℕ) (before : Node) → ShowsColumns (Some (with_inputs number before)) → ShowsColumns (Some before)
shown_before number (Project i items) shows = shows
shown_before number node shows = shows

part_shows : (after : Node) → IsPart after → ShowsColumns (Some after) → ⊥
part_shows (DictPart i p) part shows = shows
part_shows node part shows = part

module _ (old new : List Node) (is : IsRenumbered old new) where
  -- conditions stand above a node as they stood above what it was
  above_moved : (conds : List Term) (before after : Node) → IsMoved is.to before after → StandAbove old conds (Some before) → StandAbove new conds (Some after)
  above_moved conds before after moved above =
      subst (λ (x : Node). StandAbove new conds (Some x)) (sym moved.same) (by before moved.number moved.left above)
    where
      width : (i n : ℕ) → is.to i ≡ Some n → width_at old i ≡ width_at new n
      width i n e = sym (ap (λ (s : Shape). s.width) (is.shaped i n e))

      by : (x : Node) (number : ℕ → ℕ) → IfSome (left_input x) (λ i. is.to i ≡ Some (number i)) → StandAbove old conds (Some x) → StandAbove new conds (Some (with_inputs number x))
      by (Cross left right conditional) number there above = subst (λ (w : ℕ). All (ReadsBothFreely w) conds) (width left (number left) there) above
      by (SpanJoin left right join lc rc conditional) number there above = subst (λ (w : ℕ). All (ReadsBoth w) conds) (width left (number left) there) above
      by (Project i items) number there above = above
      by (Union left right) number there above = above
      by x number there above = tt

  above_part : (conds : List Term) (after : Node) → IsPart after → StandAbove new conds (Some after)
  above_part conds (DictPart i p) part = tt
  above_part conds after part = absurd part

  above_like : (conds : List Term) (before after : Node) → IsMoved is.to before after ⊎ (IsPart before × IsPart after) → StandAbove old conds (Some before) → StandAbove new conds (Some after)
  above_like conds before after (inl moved) above = above_moved conds before after moved above
  above_like conds before after (inr parts) above = above_part conds after parts.1

  shows_like : (before after : Node) → IsMoved is.to before after ⊎ (IsPart before × IsPart after) → ShowsColumns (Some after) → ShowsColumns (Some before)
  shows_like before after (inl moved) shows = shown_before moved.number before (subst (λ (x : Node). ShowsColumns (Some x)) moved.same shows)
  shows_like before after (inr parts) shows = absurd (part_shows after parts.1 shows)

  part_selection : (m : ℕ) (conds : List Term) → IsPart (Select m conds) → ⊥
  part_selection m conds part = part

  module _ (pushed : ArePushed old) where
    -- the conditions of a node that was a selection
    stands_again : (m : ℕ) (conds : List Term) (before : Node) (i : ℕ) → slice_get old i ≡ Some before → IsMoved is.to before (Select m conds) → StandAbove new conds (slice_get new m)
    stands_again m conds before i at moved =
        let s = selection_before moved.number before m conds moved.same in
        let here : slice_get old i ≡ Some (Select s.0 conds) = at ∙ ap (λ (x : Node). Some x) s.1 in
        let to_m : is.to s.0 ≡ Some m =
        subst (λ (x : Node). IfSome (left_input x) (λ j. is.to j ≡ Some (moved.number j))) s.1 moved.left ∙ ap (λ (k : ℕ). Some k) s.2 in
        let may : StandAbove old conds (slice_get old s.0) =
        subst (MayStand old) (get_or_from_slice_get old i (Select s.0 conds) Doc here) (pushed i Doc (slice_get_within old i (Select s.0 conds) here)) in
        let below = get_or old s.0 Doc in
        let at_below : slice_get old s.0 ≡ Some below = slice_get-get_or old s.0 Doc (is.there s.0 m to_m) in
        let after = is.moved s.0 m below to_m at_below in
        subst (λ (o : Option Node). StandAbove new conds o) (sym after.1)
        (above_like conds below after.0 after.2 (subst (λ (o : Option Node). StandAbove old conds o) at_below may))

    like_again : (m : ℕ) (conds : List Term) (before : Node) (i : ℕ) → slice_get old i ≡ Some before → IsMoved is.to before (Select m conds) ⊎ (IsPart before × IsPart (Select m conds))
        → StandAbove new conds (slice_get new m)
    like_again m conds before i at (inl moved) = stands_again m conds before i at moved
    like_again m conds before i at (inr parts) = absurd (part_selection m conds parts.1)

    -- a projection
    shows_again : (m : ℕ) (items : List Term) (before : Node) (i : ℕ) → slice_get old i ≡ Some before → IsMoved is.to before (Project m items) ⊎ (IsPart before × IsPart (Project m items))
        → ShowsColumns (slice_get new m) → ⊥
    shows_again m items before i at (inl moved) shows =
        let s = projection_before moved.number before m items moved.same in
        let here : slice_get old i ≡ Some (Project s.0 items) = at ∙ ap (λ (x : Node). Some x) s.1 in
        let to_m : is.to s.0 ≡ Some m =
        subst (λ (x : Node). IfSome (left_input x) (λ j. is.to j ≡ Some (moved.number j))) s.1 moved.left ∙ ap (λ (k : ℕ). Some k) s.2 in
        let may : ShowsColumns (slice_get old s.0) → ⊥ =
        subst (MayStand old) (get_or_from_slice_get old i (Project s.0 items) Doc here) (pushed i Doc (slice_get_within old i (Project s.0 items) here)) in
        let below = get_or old s.0 Doc in
        let at_below : slice_get old s.0 ≡ Some below = slice_get-get_or old s.0 Doc (is.there s.0 m to_m) in
        let after = is.moved s.0 m below to_m at_below in
        may (subst (λ (o : Option Node). ShowsColumns o) (sym at_below) (shows_like below after.0 after.2 (subst (λ (o : Option Node). ShowsColumns o) after.1 shows)))
    shows_again m items before i at (inr parts) shows = parts.1

    may_again : (n : ℕ) (node : Node) → slice_get new n ≡ Some node → MayStand new node
    may_again n (Select m conds) at =
        let f = is.from n (Select m conds) at tt in
        let before = get_or old f.0 Doc in
        let at_before : slice_get old f.0 ≡ Some before = slice_get-get_or old f.0 Doc (is.there f.0 n f.1) in
        let after = is.moved f.0 n before f.1 at_before in
        let same : after.0 ≡ Select m conds = some_same after.0 (Select m conds) (sym after.1 ∙ at) in
        like_again m conds before f.0 at_before
        (subst (λ (x : Node). IsMoved is.to before x ⊎ (IsPart before × IsPart x)) same after.2)
    may_again n (Project m items) at =
        let f = is.from n (Project m items) at tt in
        let before = get_or old f.0 Doc in
        let at_before : slice_get old f.0 ≡ Some before = slice_get-get_or old f.0 Doc (is.there f.0 n f.1) in
        let after = is.moved f.0 n before f.1 at_before in
        let same : after.0 ≡ Project m items = some_same after.0 (Project m items) (sym after.1 ∙ at) in
        shows_again m items before f.0 at_before (subst (λ (x : Node). IsMoved is.to before x ⊎ (IsPart before × IsPart x)) same after.2)
    may_again n node at = tt

    pub pushed-again : ArePushed new
    pushed-again n d below = may_again n (get_or new n d) (slice_get-get_or new n d below)
