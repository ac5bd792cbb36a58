-- Who reads the nodes of a plan, from the last node on.
use Rattle.std.proofs.Common.{◌≡◌, ◌∙◌, ◌⊎◌, inl, inr, ◌↔◌, IsTrue, not, nat_eq, ℕ, zero, suc, ◌+◌, ◌<◌, ◌≤◌, Bool, true, false, List, [], ◌∷◌, ◌++◌, map, take, length, get_or, refl, sym, ap, subst, arith, Option, Some, None, true≢false}
use Rattle.std.specs.Prelude.{slice_get, set}
use Rattle.std.specs.List.{All, Contains}
use Rattle.std.proofs.lemmas.Bool.{cases_eq, cases_lt, eqb-true}
use Rattle.std.proofs.Math.Seq.{take-suc}
use Rattle.std.proofs.lemmas.List.{length-set, get_or-set_same, get_or-set_other, map-append, take_all}
use Rattle.std.proofs.lemmas.List.Elements.{All-contains, Contains-append_left, Contains-get_or, Contains-push, Contains-push_cases}
use Rattle.std.proofs.lemmas.Option.{same_Some, slice_get_within}
use Rattle.span_token.specs.RisingLists.{Contains-here}
use Rattle.algebra.specs.declared.node.Node.{Node}
use Rattle.algebra.specs.declared.output.PlanOut.{PlanOut}
use Rattle.algebra.specs.Growth.{IsAt}
use Rattle.algebra.specs.Inputs.{left_input, right_input, IsAmong}
use Rattle.restrict_eval.specs.Readers.{is_shown, readers_in, noted, AreShown, IsReader, AreReaders, IsOnly}
use Rattle.restrict_eval.specs.Restricting.{Reads, IsLive}
use Rattle.restrict_eval.specs.Restricting as words

-- ---- whether there is a reader

some_of : (xs : List ℕ) → false ≡ nat_eq (length xs) 0 → (k : ℕ) × Contains xs k
some_of [] e = absurd (true≢false (sym e))
some_of (x ∷ xs) e = (x, Contains-here x xs)

pub some_told : (shown : Bool) (xs : List ℕ) (b : Bool) → shown ≡ false → b ≡ nat_eq (length xs) 0
    → (IsTrue (not b) → (shown ≡ true) ⊎ ((k : ℕ) × Contains xs k)) × ((shown ≡ true) ⊎ ((k : ℕ) × Contains xs k) → IsTrue (not b))
some_told shown xs true dark e = (λ t. absurd (true≢false (sym t)), λ some. absurd (none some))
  where
    none : (shown ≡ true) ⊎ ((k : ℕ) × Contains xs k) → ⊥
    none (inl marked) = true≢false (sym marked ∙ dark)
    none (inr c) = let empty : length xs ≡ 0 = eqb-true (length xs) 0 (sym e) in omega (arith, c.1.1, empty)
some_told shown xs false dark e = (λ t. inr (some_of xs e), λ some. refl)

-- ---- one reader more

noted_same : (j reader : ℕ) (lists : List (List ℕ)) → j < length lists → readers_in (noted (Some j) reader lists) j ≡ readers_in lists j ++ reader ∷ []
noted_same j reader lists there = get_or-set_same lists j (readers_in lists j ++ reader ∷ []) [] there

noted_other : (i j reader : ℕ) (lists : List (List ℕ)) → (i ≡ j → ⊥) → readers_in (noted (Some j) reader lists) i ≡ readers_in lists i
noted_other i j reader lists other = get_or-set_other lists j i (readers_in lists j ++ reader ∷ []) [] other

-- who reads node i, after a reader was noted
pub noted_cases : (o : Option ℕ) (reader : ℕ) (lists : List (List ℕ)) (i k : ℕ) → IsAmong (length lists) o → Contains (readers_in (noted o reader lists) i) k
    → Contains (readers_in lists i) k ⊎ ((o ≡ Some i) × (k ≡ reader))
noted_cases None reader lists i k there c = inl c
noted_cases (Some j) reader lists i k there c = elim (cases_eq i j) [
  | inl same ↦
      let has : Contains (readers_in lists j ++ reader ∷ []) k = subst (λ (ks : List ℕ). Contains ks k) (noted_same j reader lists there) (subst (λ (m : ℕ). Contains (readers_in (noted (Some j) reader lists) m) k) same c) in
      elim (Contains-push_cases (readers_in lists j) reader k has) [
        | inl before ↦ inl (subst (λ (m : ℕ). Contains (readers_in lists m) k) (sym same) before)
        | inr last ↦ inr (ap (λ (m : ℕ). Some m) (sym same), sym last)
      ]
  | inr other ↦ inl (subst (λ (ks : List ℕ). Contains ks k) (noted_other i j reader lists other) c)
]

pub noted_more : (o : Option ℕ) (reader : ℕ) (lists : List (List ℕ)) (i k : ℕ) → IsAmong (length lists) o → Contains (readers_in lists i) k → Contains (readers_in (noted o reader lists) i) k
noted_more None reader lists i k there c = c
noted_more (Some j) reader lists i k there c = elim (cases_eq i j) [
  | inl same ↦ subst (λ (m : ℕ). Contains (readers_in (noted (Some j) reader lists) m) k) (sym same)
      (subst (λ (ks : List ℕ). Contains ks k) (sym (noted_same j reader lists there))
      (Contains-append_left (readers_in lists j) (reader ∷ []) k (subst (λ (m : ℕ). Contains (readers_in lists m) k) same c)))
  | inr other ↦ subst (λ (ks : List ℕ). Contains ks k) (sym (noted_other i j reader lists other)) c
]

pub noted_last : (reader : ℕ) (lists : List (List ℕ)) (i : ℕ) → i < length lists → Contains (readers_in (noted (Some i) reader lists) i) reader
noted_last reader lists i there = subst (λ (ks : List ℕ). Contains ks reader) (sym (noted_same i reader lists there)) (Contains-push (readers_in lists i) reader)

pub noted_long : (o : Option ℕ) (reader : ℕ) (lists : List (List ℕ)) → length (noted o reader lists) ≡ length lists
noted_long None reader lists = refl
noted_long (Some j) reader lists = length-set lists j (readers_in lists j ++ reader ∷ [])

-- ---- the readers of a plan

module _ (nodes : List Node) (outputs : List ℕ) where
  abbrev IsNodeAt : ℕ → Node → Type 0
  IsNodeAt n node = slice_get nodes n ≡ Some node

  -- who reads from one node on, and from the next
  sooner : (n i k : ℕ) → IsReader nodes outputs (n + 1) i k → IsReader nodes outputs n i k
  sooner n i k reads = record { node = reads.node; behind = let b = reads.behind in omega (arith, b); is = reads.is; reads = reads.reads; live = reads.live }

  later : (n i k : ℕ) → n < k → IsReader nodes outputs n i k → IsReader nodes outputs (n + 1) i k
  later n i k behind reads = record { node = reads.node; behind = omega (arith, behind); is = reads.is; reads = reads.reads; live = reads.live }

  lower : (k i : ℕ) (node : Node) → IsAt nodes k node → Reads node i → i < k
  lower k i node at (inl left) = subst (λ (o : Option ℕ). IsAmong k o) left at.left_lower
  lower k i node at (inr right) = subst (λ (o : Option ℕ). IsAmong k o) right at.right_lower

  module _ (shown : List Bool) where
    pub told_live : (n from : ℕ) (lists : List (List ℕ)) → AreReaders nodes outputs from shown lists → (is_shown shown n ≡ true) ⊎ ((k : ℕ) × Contains (readers_in lists n) k) → IsLive nodes outputs n
    told_live n from lists are (inl marked) = words.output n ((are.shown_are n).0 marked)
    told_live n from lists are (inr read) =
        let reads = (are.lists_are n read.0).0 read.1 in
        words.input read.0 n reads.node reads.is reads.reads reads.live

    live_read : (lists : List (List ℕ)) → AreReaders nodes outputs 0 shown lists → (m : ℕ) → IsLive nodes outputs m → (is_shown shown m ≡ true) ⊎ ((k : ℕ) × Contains (readers_in lists m) k)
    live_read lists are _ (words.output i listed) = inl ((are.shown_are i).1 listed)
    live_read lists are _ (words.input k i node is reads live) = inr (k, (are.lists_are i k).1 (record { node = node; behind = omega arith; is = is; reads = reads; live = live }))

    -- a test by the readers of a node tells whether it is live
    pub live_iff : (n : ℕ) (lists : List (List ℕ)) (b : Bool) (marks : List Bool) (others : List (List ℕ)) → marks ≡ shown → others ≡ lists → AreReaders nodes outputs 0 shown lists
        → (IsTrue b ↔ ((is_shown marks n ≡ true) ⊎ ((k : ℕ) × Contains (readers_in others n) k))) → IsTrue b ↔ IsLive nodes outputs n
    live_iff n lists b marks others marks_are others_are are test = (
      λ t. told_live n 0 lists are (subst (λ (ls : List (List ℕ)). (is_shown shown n ≡ true) ⊎ ((k : ℕ) × Contains (readers_in ls n) k)) others_are
          (subst (λ (ms : List Bool). (is_shown ms n ≡ true) ⊎ ((k : ℕ) × Contains (readers_in others n) k)) marks_are (test.0 t))),
      λ live. test.1 (subst (λ (ms : List Bool). (is_shown ms n ≡ true) ⊎ ((k : ℕ) × Contains (readers_in others n) k)) (sym marks_are)
          (subst (λ (ls : List (List ℕ)). (is_shown shown n ≡ true) ⊎ ((k : ℕ) × Contains (readers_in ls n) k)) (sym others_are) (live_read lists are n live))),
    )

    -- a test of the readers of a node tells whether these are the only ones
    pub only_iff : (n a b : ℕ) (lists : List (List ℕ)) (r : Bool) (readers : List ℕ) → readers ≡ readers_in lists n → AreReaders nodes outputs 0 shown lists → is_shown shown n ≡ false
        → (IsTrue r ↔ All (λ k. (k ≡ a) ⊎ (k ≡ b)) readers) → IsTrue r ↔ IsOnly nodes outputs n a b
    only_iff n a b lists r readers readers_are are dark test = (
      λ t.
          let all : All (λ k. (k ≡ a) ⊎ (k ≡ b)) (readers_in lists n) = subst (All (λ k. (k ≡ a) ⊎ (k ≡ b))) readers_are (test.0 t) in
          record {
            unshown = λ listed. true≢false (sym ((are.shown_are n).1 listed) ∙ dark);
            alone = λ k node is live reads.
                All-contains (λ m. (m ≡ a) ⊎ (m ≡ b)) (readers_in lists n) k all ((are.lists_are n k).1 (record { node = node; behind = omega arith; is = is; reads = reads; live = live }));
          },
      λ only. test.1 (subst (All (λ k. (k ≡ a) ⊎ (k ≡ b))) (sym readers_are) (λ k d below.
          let reads = (are.lists_are n (get_or (readers_in lists n) k d)).0 (Contains-get_or (readers_in lists n) k d below) in
          only.alone (get_or (readers_in lists n) k d) reads.node reads.is reads.live reads.reads)),
    )

  module _ (at : (k : ℕ) (node : Node) → IsNodeAt k node → IsAt nodes k node) (shown : List Bool) where
    -- a node that is live is shown, or read by a live node behind it
    live_told : (n : ℕ) (lists : List (List ℕ)) → AreReaders nodes outputs (n + 1) shown lists → (m : ℕ) → m ≡ n → IsLive nodes outputs m → (is_shown shown n ≡ true) ⊎ ((k : ℕ) × Contains (readers_in lists n) k)
    live_told n lists are _ same (words.output i listed) = inl ((are.shown_are n).1 (subst (λ (m : ℕ). Contains outputs m) same listed))
    live_told n lists are _ same (words.input k i node is reads live) =
        let behind : i < k = lower k i node (at k node is) reads in
        inr (k, (are.lists_are n k).1 (record { node = node; behind = omega (arith, behind, same); is = is; reads = subst (λ (m : ℕ). Reads node m) same reads; live = live }))

    module _ (n : ℕ) (node : Node) (is : IsNodeAt n node) (lists : List (List ℕ)) (are : AreReaders nodes outputs (n + 1) shown lists) where
      -- a node that isn't live reads nothing for anybody
      pub unread-step : (((is_shown shown n ≡ true) ⊎ ((k : ℕ) × Contains (readers_in lists n) k)) → ⊥) → AreReaders nodes outputs n shown lists
      unread-step dead = record {
        shown_long = are.shown_long;
        lists_long = are.lists_long;
        shown_are = are.shown_are;
        lists_are = λ i k. (
          λ c. sooner n i k ((are.lists_are i k).0 c),
          λ reads. elim (cases_lt n k) [
            | inl behind ↦ (are.lists_are i k).1 (later n i k behind reads)
            | inr first ↦ let b = reads.behind in let same : k ≡ n = omega (arith, first, b) in absurd (dead (live_told n lists are k same reads.live))
          ],
        );
      }

      module _ (live : IsLive nodes outputs n) where
        abbrev mid : List (List ℕ)
        mid = noted (left_input node) n lists

        abbrev new : List (List ℕ)
        new = noted (right_input node) n mid

        here : (i : ℕ) → Reads node i → IsReader nodes outputs n i n
        here i reads = record { node = node; behind = omega arith; is = is; reads = reads; live = live }

        noted_now : (i k : ℕ) → IsAmong (length lists) (left_input node) → IsAmong (length lists) (right_input node) → Contains (readers_in new i) k → IsReader nodes outputs n i k
        noted_now i k left right c = elim (noted_cases (right_input node) n mid i k (subst (λ (m : ℕ). IsAmong m (right_input node)) (sym (noted_long (left_input node) n lists)) right) c) [
          | inl before ↦ elim (noted_cases (left_input node) n lists i k left before) [
            | inl old ↦ sooner n i k ((are.lists_are i k).0 old)
            | inr on_left ↦ subst (λ (m : ℕ). IsReader nodes outputs n i m) (sym on_left.1) (here i (inl on_left.0))
          ]
          | inr on_right ↦ subst (λ (m : ℕ). IsReader nodes outputs n i m) (sym on_right.1) (here i (inr on_right.0))
        ]

        reads_noted : (i : ℕ) → IsAmong (length lists) (left_input node) → IsAmong (length lists) (right_input node) → Reads node i → Contains (readers_in new i) n
        reads_noted i left right (inl e) =
            noted_more (right_input node) n mid i n (subst (λ (m : ℕ). IsAmong m (right_input node)) (sym (noted_long (left_input node) n lists)) right)
            (subst (λ (o : Option ℕ). Contains (readers_in (noted o n lists) i) n) (sym e) (noted_last n lists i (subst (IsAmong (length lists)) e left)))
        reads_noted i left right (inr e) =
            let there : i < length mid = omega (arith, subst (IsAmong (length lists)) e right, noted_long (left_input node) n lists) in
            subst (λ (o : Option ℕ). Contains (readers_in (noted o n mid) i) n) (sym e) (noted_last n mid i there)

        pub read-step : IsAmong (length lists) (left_input node) → IsAmong (length lists) (right_input node) → AreReaders nodes outputs n shown new
        read-step left right = record {
          shown_long = are.shown_long;
          lists_long = noted_long (right_input node) n mid ∙ (noted_long (left_input node) n lists ∙ are.lists_long);
          shown_are = are.shown_are;
          lists_are = λ i k. (
            noted_now i k left right,
            λ reads. elim (cases_lt n k) [
              | inl behind ↦
                  noted_more (right_input node) n mid i k (subst (λ (m : ℕ). IsAmong m (right_input node)) (sym (noted_long (left_input node) n lists)) right)
                  (noted_more (left_input node) n lists i k left ((are.lists_are i k).1 (later n i k behind reads)))
              | inr first ↦
                  let b = reads.behind in
                  let same : k ≡ n = omega (arith, first, b) in
                  let node_is : reads.node ≡ node = same_Some reads.node node (sym reads.is ∙ (ap (slice_get nodes) same ∙ is)) in
                  subst (λ (m : ℕ). Contains (readers_in new i) m) (sym same) (reads_noted i left right (subst (λ (x : Node). Reads x i) node_is reads.reads))
            ],
          );
        }

-- ---- the first step: nobody reads from behind the last node

pub none-read : (nodes : List Node) (outputs : List ℕ) (shown : List Bool) (lists : List (List ℕ)) → length shown ≡ length nodes → length lists ≡ length nodes → AreShown outputs shown
    → ((n k : ℕ) → Contains (readers_in lists n) k → ⊥) → AreReaders nodes outputs (length nodes) shown lists
none-read nodes outputs shown lists shown_long lists_long shown_are none = record {
  shown_long = shown_long;
  lists_long = lists_long;
  shown_are = shown_are;
  lists_are = λ n k. (λ c. absurd (none n k c), λ reads. absurd (let b = reads.behind in omega (arith, b, slice_get_within nodes k reads.node reads.is)));
}

-- inputs of a node have lists
pub among_lists : (nodes : List Node) (outputs : List ℕ) (lists : List (List ℕ)) (shown : List Bool) (from n : ℕ) (o : Option ℕ) → AreReaders nodes outputs from shown lists → n < length nodes → IsAmong n o → IsAmong (length lists) o
among_lists nodes outputs lists shown from n None are there among = tt
among_lists nodes outputs lists shown from n (Some i) are there among = omega (arith, among, there, are.lists_long)

-- ---- what outputs show

marked : (ns : List ℕ) (m : ℕ) (shown : List Bool) → m < length shown → AreShown ns shown → AreShown (ns ++ m ∷ []) (set shown m true)
marked ns m shown there are n = elim (cases_eq n m) [
  | inl same ↦ (
    λ t. subst (Contains (ns ++ m ∷ [])) (sym same) (Contains-push ns m),
    λ c. ap (is_shown (set shown m true)) same ∙ get_or-set_same shown m true false there,
  )
  | inr other ↦ (
    λ t. Contains-append_left ns (m ∷ []) n ((are n).0 (sym (get_or-set_other shown m n true false other) ∙ t)),
    λ c. get_or-set_other shown m n true false other ∙ elim (Contains-push_cases ns m n c) [
      | inl before ↦ (are n).1 before
      | inr last ↦ absurd (other (sym last))
    ],
  )
]

pub shown_step : (outs : List PlanOut) (i : ℕ) (out : PlanOut) (shown : List Bool) → i < length outs → out ≡ get_or outs i out → out.node < length shown
    → AreShown (map (λ (o : PlanOut). o.node) (take i outs)) shown → AreShown (map (λ (o : PlanOut). o.node) (take (i + 1) outs)) (set shown out.node true)
shown_step outs i out shown below is there are =
    let so_far = map (λ (o : PlanOut). o.node) (take i outs) in
    let next : i + 1 ≡ suc i = omega arith in
    let more : take (i + 1) outs ≡ take i outs ++ out ∷ [] =
    ap (λ (n : ℕ). take n outs) next ∙ (take-suc outs i out below ∙ ap (λ (o : PlanOut). take i outs ++ o ∷ []) (sym is)) in
    let nodes : map (λ (o : PlanOut). o.node) (take (i + 1) outs) ≡ so_far ++ out.node ∷ [] = ap (map (λ (o : PlanOut). o.node)) more ∙ map-append (λ (o : PlanOut). o.node) (take i outs) (out ∷ []) in
    subst (λ (ns : List ℕ). AreShown ns (set shown out.node true)) (sym nodes) (marked so_far out.node shown there are)

pub shown_all : (outs : List PlanOut) (i : ℕ) (shown : List Bool) → length outs ≤ i → AreShown (map (λ (o : PlanOut). o.node) (take i outs)) shown → AreShown (map (λ (o : PlanOut). o.node) outs) shown
shown_all outs i shown past are = subst (λ (os : List PlanOut). AreShown (map (λ (o : PlanOut). o.node) os) shown) (take_all i outs past) are

-- a list without a reader more
pub none_push : (lists : List (List ℕ)) (n k : ℕ) → ((m j : ℕ) → Contains (readers_in lists m) j → ⊥) → Contains (readers_in (lists ++ [] ∷ []) n) k → ⊥
none_push [] zero k none c = omega (arith, c.1)
none_push [] (suc n) k none c = omega (arith, c.1)
none_push (list ∷ lists) zero k none c = none 0 k c
none_push (list ∷ lists) (suc n) k none c = none_push lists n k (λ m j. none (suc m) j) c
