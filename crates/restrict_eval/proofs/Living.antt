-- Which nodes of the new plan are live: what stands for a live node of the old one, but for what is looked for near rows.
use Rattle.std.proofs.Common.{◌≡◌, ◌∙◌, ◌⊎◌, inl, inr, ℕ, zero, suc, ◌<◌, List, [], ◌∷◌, map, length, get_or, refl, sym, ap, subst, arith, Option, Some, None, option_map}
use Rattle.std.specs.Prelude.{slice_get}
use Rattle.std.specs.List.{Contains}
use Rattle.std.proofs.lemmas.Bool.{cases_lt}
use Rattle.std.proofs.lemmas.List.{length-map}
use Rattle.std.proofs.lemmas.List.Elements.{Contains-append_right}
use Rattle.span_token.specs.RisingLists.{Contains-here}
use Rattle.std.proofs.lemmas.Option.{none-some, same_Some, slice_get_within, slice_get-get_or}
use Rattle.scalar_ops.specs.Expressions.{column}
use Rattle.algebra.specs.declared.node.Node.{Node}
use Rattle.algebra.specs.declared.node.Node.TheVariants.{Doc, TokenRegex, Dict, DictPart, Project, SpanJoin, Restricted}
use Rattle.algebra.specs.declared.node.Local.{Local}
use Rattle.algebra.specs.declared.node.Local.TheVariants as sought
use Rattle.algebra.specs.Inputs.{left_input, right_input}
use Rattle.algebra.specs.Mapping.{new_number}
use Rattle.restrict_eval.specs.Rebuilding.{IsNearJoin, IsLeft, IsStood, IsFor, IsRestrictedFrom}
use Rattle.restrict_eval.specs.Rebuilding as words
use Rattle.restrict_eval.specs.Restricting.{Reads, IsLive, Finds, ShowsMatch, IsRestrictable}
use Rattle.restrict_eval.specs.Restricting as lives
use Rattle.restrict_eval.specs.TakenLaws.{carried, carried-left, carried-right, reads_carried}
use Rattle.restrict_eval.proofs.Finding.{one_node, IsDictOn}

-- ---- lists

mapped_at : (f : ℕ → ℕ) (xs : List ℕ) (k d e : ℕ) → k < length xs → get_or xs k d ≡ d → get_or (map f xs) k e ≡ f d
mapped_at f [] k d e below is = absurd (omega (arith, below))
mapped_at f (y ∷ ys) zero d e below is = ap f is
mapped_at f (y ∷ ys) (suc k) d e below is = mapped_at f ys k d e (omega (arith, below)) is

pub mapped_contains : (f : ℕ → ℕ) (xs : List ℕ) (x : ℕ) → Contains xs x → Contains (map f xs) (f x)
mapped_contains f xs x c = (c.0, omega (arith, c.1, length-map xs f), mapped_at f xs c.0 x (f x) c.1 c.2)

unmapped_at : (f : ℕ → ℕ) (xs : List ℕ) (k y : ℕ) → k < length xs → get_or (map f xs) k y ≡ y → (x : ℕ) × Contains xs x × (f x ≡ y)
unmapped_at f [] k y below is = absurd (omega (arith, below))
unmapped_at f (x ∷ xs) zero y below is = (x, Contains-here x xs, is)
unmapped_at f (x ∷ xs) (suc k) y below is =
    let rest = unmapped_at f xs k y (omega (arith, below)) is in
    (rest.0, Contains-append_right (x ∷ []) xs rest.0 rest.1, rest.2)

pub unmapped_contains : (f : ℕ → ℕ) (xs : List ℕ) (y : ℕ) → Contains (map f xs) y → (x : ℕ) × Contains xs x × (f x ≡ y)
unmapped_contains f xs y c = unmapped_at f xs c.0 y (omega (arith, c.1, length-map xs f)) c.2

-- ---- what is read

pub reads_back : (to : ℕ → ℕ) (node : Node) (m : ℕ) → Reads (carried to node) m → (i : ℕ) × Reads node i × (m ≡ to i)
reads_back to node m (inl left) = from (left_input node) (λ i e. inl e) (sym (carried-left to node) ∙ left)
  where
    from : (o : Option ℕ) → ((i : ℕ) → o ≡ Some i → Reads node i) → option_map to o ≡ Some m → (i : ℕ) × Reads node i × (m ≡ to i)
    from None each e = absurd (none-some m e)
    from (Some i) each e = (i, each i refl, sym (same_Some (to i) m e))
reads_back to node m (inr right) = from (right_input node) (λ i e. inr e) (sym (carried-right to node) ∙ right)
  where
    from : (o : Option ℕ) → ((i : ℕ) → o ≡ Some i → Reads node i) → option_map to o ≡ Some m → (i : ℕ) × Reads node i × (m ≡ to i)
    from None each e = absurd (none-some m e)
    from (Some i) each e = (i, each i refl, sym (same_Some (to i) m e))

-- ---- from the old plan to the new one

module _ (old : List Node) (outputs : List ℕ) (new : List Node) (to : List ℕ) (rebuilt : IsRestrictedFrom old outputs new to) where
  abbrev look : ℕ → ℕ
  look i = new_number to i

  abbrev shown_now : List ℕ
  shown_now = map look outputs

  abbrev IsNearAt : ℕ → ℕ → Type 0
  IsNearAt j n = IsNearJoin old outputs new to j n

  -- numbers that are the same stand for one node
  pub one_number : (i k : ℕ) → i < length to → k < length to → look i ≡ look k → i ≡ k
  one_number i k below_i below_k same = elim (cases_lt i k) [
    | inl lower ↦ absurd (let r = rebuilt.rising i k lower below_k in omega (arith, r, same))
    | inr least ↦ elim (cases_lt k i) [
      | inl lower ↦ absurd (let r = rebuilt.rising k i lower below_i in omega (arith, r, same))
      | inr most ↦ omega (arith, least, most)
    ]
  ]

  pub within : (i : ℕ) (x : Node) → slice_get old i ≡ Some x → i < length to
  within i x is = omega (arith, slice_get_within old i x is, rebuilt.mapped.long)

  -- a node that is looked for near rows: the right input of a join, or that of which it shows columns, or the `Dict` node below it
  pub record IsAbsorbed (i : ℕ) : Type 0 where
    pub j : ℕ
    pub n : ℕ
    pub near : IsNearAt j n
    pub live : IsLive new shown_now n
    pub is : (i ≡ near.right) ⊎ ((i ≡ near.may.t) ⊎ IsDictOn old near.may.found.source i)

  abbrev IsLiveOver : ℕ → Type 0
  IsLiveOver i = IsLive new shown_now (look i) ⊎ IsAbsorbed i

  -- what a restricted join reads is live
  source_live : (j n : ℕ) (near : IsNearAt j n) → IsLive new shown_now n → IsLive new shown_now (look near.may.found.source)
  source_live j n near live = lives.input n (look near.may.found.source) _ near.at (inr refl) live

  -- the `Dict` node reads the source
  dict_read : (j n : ℕ) (near : IsNearAt j n) → IsLive new shown_now n → (k i : ℕ) (node : Node) → slice_get old k ≡ Some node → IsDictOn old near.may.found.source k → Reads node i → IsLiveOver i
  dict_read j n near live k i node is dict reads =
      read (subst (λ (x : Node). Reads x i) (one_node old k k node (Dict near.may.found.source dict.0 (dict.1 ∷ [])) refl is dict.2) reads)
    where
      read : Reads (Dict near.may.found.source dict.0 (dict.1 ∷ [])) i → IsLiveOver i
      read (inl e) = inl (subst (λ (m : ℕ). IsLive new shown_now (look m)) (same_Some near.may.found.source i e) (source_live j n near live))
      read (inr e) = absurd (none-some i e)

  -- the pattern's node reads the source, and a part of a `Dict` node that node
  found_read : (j n : ℕ) (near : IsNearAt j n) → IsLive new shown_now n → (k i : ℕ) (node : Node) → slice_get old k ≡ Some node → k ≡ near.may.t → Reads node i → IsLiveOver i
  found_read j n near live k i node is same reads = by near.may.found.part near.may.found.finds
    where
      by : (part : Local) → Finds old near.may.t near.may.found.source part → IsLiveOver i
      by (sought.TokenRegex low high pattern) finds =
          read (subst (λ (x : Node). Reads x i) (one_node old k near.may.t node (TokenRegex near.may.found.source finds.0 low high pattern (0 ∷ [])) same is finds.1) reads)
        where
          read : Reads (TokenRegex near.may.found.source finds.0 low high pattern (0 ∷ [])) i → IsLiveOver i
          read (inl e) = inl (subst (λ (m : ℕ). IsLive new shown_now (look m)) (same_Some near.may.found.source i e) (source_live j n near live))
          read (inr e) = absurd (none-some i e)
      by (sought.Dict d) finds = read (subst (λ (x : Node). Reads x i) (one_node old k near.may.t node (DictPart finds.0 0) same is finds.2) reads)
        where
          read : Reads (DictPart finds.0 0) i → IsLiveOver i
          read (inl e) = inr (record { j = j; n = n; near = near; live = live; is = inr (inr (finds.1, d, ap (slice_get old) (sym (same_Some finds.0 i e)) ∙ finds.3)) })
          read (inr e) = absurd (none-some i e)

  -- what an absorbed node reads
  absorbed_read : (k i : ℕ) (node : Node) → slice_get old k ≡ Some node → Reads node i → IsAbsorbed k → IsLiveOver i
  absorbed_read k i node is reads absorbed = by absorbed.is
    where
      shown : k ≡ absorbed.near.right → ShowsMatch old absorbed.near.may.t absorbed.near.right absorbed.near.rc → IsLiveOver i
      shown same (inl whole) = found_read absorbed.j absorbed.n absorbed.near absorbed.live k i node is (same ∙ whole.0) reads
      shown same (inr part) = columns_read (subst (λ (x : Node). Reads x i) (one_node old k absorbed.near.right node (Project absorbed.near.may.t (map column part.0)) same is part.1) reads)
        where
          columns_read : Reads (Project absorbed.near.may.t (map column part.0)) i → IsLiveOver i
          columns_read (inl e) = inr (record { j = absorbed.j; n = absorbed.n; near = absorbed.near; live = absorbed.live; is = inr (inl (sym (same_Some absorbed.near.may.t i e))) })
          columns_read (inr e) = absurd (none-some i e)

      by : (k ≡ absorbed.near.right) ⊎ ((k ≡ absorbed.near.may.t) ⊎ IsDictOn old absorbed.near.may.found.source k) → IsLiveOver i
      by (inl right) = shown right absorbed.near.may.match
      by (inr (inl base)) = found_read absorbed.j absorbed.n absorbed.near absorbed.live k i node is base reads
      by (inr (inr dict)) = dict_read absorbed.j absorbed.n absorbed.near absorbed.live k i node is dict reads

  -- what a join reads in place of which node n looks near rows
  near_read : (k i n : ℕ) (node : Node) → slice_get old k ≡ Some node → Reads node i → (near : IsNearAt k n) → IsLive new shown_now n → IsLiveOver i
  near_read k i n node is reads near live = read (subst (λ (x : Node). Reads x i) (one_node old k k node (SpanJoin near.left near.right near.kind near.lc near.rc near.conditional) refl is near.is) reads)
    where
      read : Reads (SpanJoin near.left near.right near.kind near.lc near.rc near.conditional) i → IsLiveOver i
      read (inl e) = inl (subst (λ (m : ℕ). IsLive new shown_now (look m)) (same_Some near.left i e) (lives.input n (look near.left) _ near.at (inl refl) live))
      read (inr e) = inr (record { j = k; n = n; near = near; live = live; is = inl (sym (same_Some near.right i e)) })

  stood_read : (k i : ℕ) (node : Node) → slice_get old k ≡ Some node → Reads node i → IsLive new shown_now (look k) → IsStood old outputs new to k node → IsLiveOver i
  stood_read k i node is reads live (words.same left at) = inl (lives.input (look k) (look i) (carried look node) at (reads_carried look node i reads) live)
  stood_read k i node is reads live (words.near near) = near_read k i (look k) node is reads near live
  stood_read k i node is reads live (words.shown n cs near above at) = near_read k i n node is reads near (lives.input (look k) n (Project n (map column cs)) at (inl refl) live)

  over_read : (k i : ℕ) (node : Node) → slice_get old k ≡ Some node → Reads node i → IsLiveOver k → IsLiveOver i
  over_read k i node is reads (inl live) = stood_read k i node is reads live (rebuilt.stood k node is)
  over_read k i node is reads (inr absorbed) = absorbed_read k i node is reads absorbed

  -- what stands for a live node is live, but for nodes that are looked for near rows
  pub live_over : (i : ℕ) → IsLive old outputs i → IsLiveOver i
  live_over _ (lives.output i listed) = inl (lives.output (look i) (mapped_contains look outputs i listed))
  live_over _ (lives.input k i node is reads live) = over_read k i node is reads (live_over k live)

  -- ---- and back

  -- a live node of the new plan stands for a live node of the old one, or looks near its left rows
  abbrev IsLiveUnder : ℕ → Type 0
  IsLiveUnder m = ((i : ℕ) × (m ≡ look i) × IsLive old outputs i) ⊎ ((i : ℕ) × IsNearAt i m)

  source_under : (j n : ℕ) (near : IsNearAt j n) → IsLive old outputs near.may.found.source
  source_under j n near =
      let right : IsLive old outputs near.right = lives.input j near.right _ near.is (inr refl) near.live in
      below (shown right near.may.match) near.may.found.part near.may.found.finds
    where
      shown : IsLive old outputs near.right → ShowsMatch old near.may.t near.right near.rc → IsLive old outputs near.may.t
      shown right (inl whole) = subst (IsLive old outputs) whole.0 right
      shown right (inr part) = lives.input near.right near.may.t _ part.1 (inl refl) right

      below : IsLive old outputs near.may.t → (part : Local) → Finds old near.may.t near.may.found.source part → IsLive old outputs near.may.found.source
      below base (sought.TokenRegex low high pattern) finds = lives.input near.may.t near.may.found.source _ finds.1 (inl refl) base
      below base (sought.Dict d) finds = lives.input finds.0 near.may.found.source _ finds.3 (inl refl) (lives.input near.may.t finds.0 _ finds.2 (inl refl) base)

  near_under : (j n m : ℕ) (node : Node) → slice_get new n ≡ Some node → Reads node m → IsNearAt j n → IsLiveUnder m
  near_under j n m node is reads near = read (subst (λ (x : Node). Reads x m) (one_node new n n node _ refl is near.at) reads)
    where
      read : Reads (Restricted (look near.left) (look near.may.found.source) near.kind near.lc near.may.found.part) m → IsLiveUnder m
      read (inl e) = inl (near.left, sym (same_Some (look near.left) m e), lives.input j near.left _ near.is (inl refl) near.live)
      read (inr e) = inl (near.may.found.source, sym (same_Some (look near.may.found.source) m e), source_under j n near)

  stood_under : (i m : ℕ) (x node : Node) → slice_get old i ≡ Some x → IsLive old outputs i → slice_get new (look i) ≡ Some node → Reads node m → IsStood old outputs new to i x → IsLiveUnder m
  stood_under i m x node is live at reads (words.same left stands) =
      let back = reads_back look x m (subst (λ (y : Node). Reads y m) (one_node new (look i) (look i) node (carried look x) refl at stands) reads) in
      inl (back.0, back.2, lives.input i back.0 x is back.1 live)
  stood_under i m x node is live at reads (words.near near) = near_under i (look i) m node at reads near
  stood_under i m x node is live at reads (words.shown n cs near above stands) =
      read (subst (λ (y : Node). Reads y m) (one_node new (look i) (look i) node (Project n (map column cs)) refl at stands) reads)
    where
      read : Reads (Project n (map column cs)) m → IsLiveUnder m
      read (inl e) = inr (i, subst (λ (k : ℕ). IsNearAt i k) (same_Some n m e) near)
      read (inr e) = absurd (none-some m e)

  listed_there : (valid : (i : ℕ) → IsLive old outputs i → i < length old) (i : ℕ) → IsLive old outputs i → slice_get old i ≡ Some (get_or old i Doc)
  listed_there valid i live = slice_get-get_or old i Doc (valid i live)

  under_read : (valid : (i : ℕ) → IsLive old outputs i → i < length old) (k m : ℕ) (node : Node) → slice_get new k ≡ Some node → Reads node m → IsLiveUnder k → IsLiveUnder m
  under_read valid k m node is reads (inl (i, same, live)) =
      let x = get_or old i Doc in
      let there = listed_there valid i live in
      stood_under i m x node there live (ap (slice_get new) (sym same) ∙ is) reads (rebuilt.stood i x there)
  under_read valid k m node is reads (inr (j, near)) = near_under j k m node is reads near

  pub live_under : (valid : (i : ℕ) → IsLive old outputs i → i < length old) (m : ℕ) → IsLive new shown_now m → IsLiveUnder m
  live_under valid _ (lives.output m listed) = let from = unmapped_contains look outputs m listed in inl (from.0, sym from.2, lives.output from.0 from.1)
  live_under valid _ (lives.input k m node is reads live) = under_read valid k m node is reads (live_under valid k live)
