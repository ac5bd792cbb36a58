-- Each number has a rank, or some use each other in a circle.
use Rattle.std.proofs.Common.{◌≡◌, ◌∙◌, ◌+◌, ◌-◌, ◌<◌, ◌≤◌, ◌⊎◌, inl, inr, ⊎_elim, ℕ, zero, suc, List, [], ◌∷◌, ◌++◌, drop, length, get_or, Contains, All, refl, ap, sym, subst, append_assoc, arith}
use Rattle.std.proofs.lemmas.Bool.{cases_lt, cases_eq, cases_order}
use Rattle.std.proofs.lemmas.List.{append-nil, length-append, length-drop, get_or-drop, get_or_at, get_or_append_left, get_or_default}
use Rattle.std.proofs.lemmas.List.Elements.{All-cons}
use Rattle.view_graph.specs.Names.{AllDiffer}
use Rattle.view_graph.specs.Graphs.{IsClosed, IsChainBelow, HasRank}
use Rattle.view_graph.proofs.Once.{Or, contains_or, differ_push, at_most}

-- the first that stands twice, if any does
pub repeated_or : (before rest : List ℕ) → AllDiffer before
    → AllDiffer (before ++ rest) ⊎ ((first : List ℕ) × (value : ℕ) × (after : List ℕ) × (before ++ rest ≡ first ++ value ∷ after) × AllDiffer first × Contains first value)
repeated_or before [] differ = inl (subst (λ (xs : List ℕ). AllDiffer xs) (sym (append-nil before)) differ)
repeated_or before (x ∷ xs) differ = by (repeated_or (before ++ x ∷ []) xs) (contains_or cases_eq before x)
  where
    by : (AllDiffer (before ++ x ∷ []) → AllDiffer ((before ++ x ∷ []) ++ xs) ⊎ ((first : List ℕ) × (value : ℕ) × (after : List ℕ) × ((before ++ x ∷ []) ++ xs ≡ first ++ value ∷ after) × AllDiffer first × Contains first value)) → Or (Contains before x)
        → AllDiffer (before ++ x ∷ xs) ⊎ ((first : List ℕ) × (value : ℕ) × (after : List ℕ) × (before ++ x ∷ xs ≡ first ++ value ∷ after) × AllDiffer first × Contains first value)
    by on (inl at) = inr (before, x, xs, refl, differ, at)
    by on (inr new) =
        subst (λ (whole : List ℕ). AllDiffer whole ⊎ ((first : List ℕ) × (value : ℕ) × (after : List ℕ) × (whole ≡ first ++ value ∷ after) × AllDiffer first × Contains first value)) (append_assoc before (x ∷ []) xs)
        (on (differ_push before x differ new))

module _ (R : ℕ → ℕ → Type 0) where
  -- numbers, each using the next
  abbrev pub IsPath : List ℕ → Type 0
  IsPath xs = (k : ℕ) (d : ℕ) → k + 1 < length xs → R (get_or xs k d) (get_or xs (k + 1) d)

  path_cons : (x y : ℕ) (ys : List ℕ) → R x y → IsPath (y ∷ ys) → IsPath (x ∷ y ∷ ys)
  path_cons x y ys uses path zero d below = uses
  path_cons x y ys uses path (suc k) d below =
      let next : suc (k + 1) ≡ suc k + 1 = omega arith in
      subst (λ (i : ℕ). R (get_or (y ∷ ys) k d) (get_or (x ∷ y ∷ ys) i d)) next (path k d (omega (arith, below)))

  chain_path : (top : ℕ) (xs : List ℕ) → IsChainBelow R top xs → IsPath xs
  chain_path top [] h = λ k d below. absurd (omega (arith, below))
  chain_path top (x ∷ []) h = λ k d below. absurd (omega (arith, below))
  chain_path top (x ∷ y ∷ ys) h = path_cons x y ys h.1.0 (chain_path x (y ∷ ys) h.1)

  chain_within : (n : ℕ) → ((a b : ℕ) → R a b → b < n) → (top : ℕ) (xs : List ℕ) → IsChainBelow R top xs → All (λ x. x < n) xs
  chain_within n within top [] h = λ k d below. absurd (omega (arith, below))
  chain_within n within top (x ∷ xs) h = All-cons (λ x. x < n) x xs (within top x h.0) (chain_within n within x xs h.1)

  -- a way that comes back to a number is a circle from there on
  back : (first : List ℕ) (value : ℕ) (after : List ℕ) → IsPath (first ++ value ∷ after) → (at : Contains first value) → IsClosed R (drop at.0 first)
  back first value after path at = record {
    some = omega (arith, long, at.1);
    each_uses_next = λ k d below.
        let here : at.0 + k + 1 < length first = omega (arith, long, below) in
        let next : at.0 + (k + 1) ≡ at.0 + k + 1 = omega arith in
        subst (λ (b : ℕ). R (get_or (drop at.0 first) k d) b) (sym (inside (k + 1) d (omega (arith, here)) ∙ ap (λ (i : ℕ). get_or (first ++ value ∷ after) i d) next))
        (subst (λ (a : ℕ). R a (get_or (first ++ value ∷ after) (at.0 + k + 1) d)) (sym (inside k d (omega (arith, here)))) (path (at.0 + k) d (omega (arith, here, longer))));
    last_uses_first =
        let begin : at.0 + 0 ≡ at.0 = omega arith in
        let final : length first - 1 ≡ at.0 + (length (drop at.0 first) - 1) = omega (arith, long, at.1) in
        let last : length first - 1 + 1 ≡ length first = omega (arith, at.1) in
        let step : R (get_or (first ++ value ∷ after) (length first - 1) 0) (get_or (first ++ value ∷ after) (length first - 1 + 1) 0) = path (length first - 1) 0 (omega (arith, longer, at.1)) in
        let to : get_or (first ++ value ∷ after) (length first - 1 + 1) 0 ≡ get_or (drop at.0 first) 0 0 =
        get_or_at first value after 0 (length first - 1 + 1) (sym last) ∙ sym (get_or-drop at.0 first 0 0 ∙ ap (λ (i : ℕ). get_or first i 0) begin ∙ get_or_default first at.0 0 value at.1 ∙ at.2) in
        let from : get_or (first ++ value ∷ after) (length first - 1) 0 ≡ get_or (drop at.0 first) (length (drop at.0 first) - 1) 0 =
        ap (λ (i : ℕ). get_or (first ++ value ∷ after) i 0) final ∙ sym (inside (length (drop at.0 first) - 1) 0 (omega (arith, long, at.1))) in
        subst (λ (a : ℕ). R a (get_or (drop at.0 first) 0 0)) from (subst (λ (b : ℕ). R (get_or (first ++ value ∷ after) (length first - 1) 0) b) to step);
  }
    where
      long : length (drop at.0 first) ≡ length first - at.0
      long = length-drop at.0 first

      longer : length first < length (first ++ value ∷ after)
      longer = omega (arith, length-append first (value ∷ after))

      inside : (k d : ℕ) → at.0 + k < length first → get_or (drop at.0 first) k d ≡ get_or (first ++ value ∷ after) (at.0 + k) d
      inside k d below = get_or-drop at.0 first k d ∙ sym (get_or_append_left first (value ∷ after) d (at.0 + k) below)

  differ_drop : (i : ℕ) (xs : List ℕ) → AllDiffer xs → AllDiffer (drop i xs)
  differ_drop i xs differ = λ j k d less within same.
      differ (i + j) (i + k) d (omega (arith, less)) (omega (arith, within, length-drop i xs)) (sym (get_or-drop i xs j d) ∙ same ∙ get_or-drop i xs k d)

  -- a circle of distinct numbers
  abbrev pub Circle : Type 0
  Circle = (views : List ℕ) × IsClosed R views × AllDiffer views

  module _ (n : ℕ) (within : (a b : ℕ) → R a b → b < n) where
    -- a chain of more than n comes back to one of its own
    pub circle_in : (top : ℕ) (chain : List ℕ) → IsChainBelow R top chain → n < length chain → Circle
    circle_in top chain h long = by (repeated_or [] chain (λ i j d before inside. absurd (omega (arith, inside))))
      where
        by : AllDiffer chain ⊎ ((first : List ℕ) × (value : ℕ) × (after : List ℕ) × (chain ≡ first ++ value ∷ after) × AllDiffer first × Contains first value) → Circle
        by (inl differ) = absurd (omega (arith, long, at_most n chain (chain_within n within top chain h) differ))
        by (inr c) = (
          drop c.5.0 c.0,
          back c.0 c.1 c.2 (subst (λ (xs : List ℕ). IsPath xs) c.3 (chain_path top chain h)) c.5,
          differ_drop c.5.0 c.0 c.4,
        )

    module _ (decide : (a b : ℕ) → Or (R a b)) where
      -- a rank, or a chain of this length below it
      abbrev Solved : ℕ → ℕ → Type 0
      Solved m v = ((rank : ℕ) × HasRank R v rank) ⊎ ((chain : List ℕ) × IsChainBelow R v chain × (length chain ≡ m))

      -- those below `end` that it uses have ranks below this one, and one has the rank just below it
      record Scanned (v end : ℕ) : Type 0 where
        rank : ℕ
        ranked : (u : ℕ) → u < end → R v u → (r : ℕ) × HasRank R u r × (r < rank)
        reached : (rank ≡ 0) ⊎ ((u r : ℕ) × R v u × HasRank R u r × (rank ≡ r + 1))

      scan_none : (v end : ℕ) → Scanned v end → ¬ (R v end) → Scanned v (suc end)
      scan_none v end s isnt = record {
        rank = s.rank;
        ranked = λ u below uses. ⊎_elim (λ at. absurd (isnt (subst (λ (x : ℕ). R v x) at uses))) (λ less. s.ranked u (⊎_elim (λ l. l) (λ past. absurd (omega (arith, past, below))) less) uses) (cases_order u end);
        reached = s.reached;
      }

      scan : (m v : ℕ) → ((u : ℕ) → Solved m u) → (end : ℕ) → Scanned v end ⊎ ((chain : List ℕ) × IsChainBelow R v chain × (length chain ≡ m + 1))
      scan m v solve zero = inl (record { rank = 0; ranked = λ u below uses. absurd (omega (arith, below)); reached = inl refl })
      scan m v solve (suc end) = by (scan m v solve end) (decide v end) (solve end)
        where
          more : (s : Scanned v end) (r : ℕ) → R v end → HasRank R end r → (s.rank < r + 1) ⊎ (r + 1 ≤ s.rank) → Scanned v (suc end)
          more s r uses h (inl higher) = record {
            rank = r + 1;
            ranked = λ u below used. ⊎_elim
                (λ at. (r, subst (λ (x : ℕ). HasRank R x r) (sym at) h, omega arith))
                (λ less. let old = s.ranked u (⊎_elim (λ l. l) (λ past. absurd (omega (arith, past, below))) less) used in (old.0, old.1, omega (arith, old.2, higher)))
                (cases_order u end);
            reached = inr (end, r, uses, h, refl);
          }
          more s r uses h (inr lower) = record {
            rank = s.rank;
            ranked = λ u below used. ⊎_elim
                (λ at. (r, subst (λ (x : ℕ). HasRank R x r) (sym at) h, omega (arith, lower)))
                (λ less. s.ranked u (⊎_elim (λ l. l) (λ past. absurd (omega (arith, past, below))) less) used)
                (cases_order u end);
            reached = s.reached;
          }

          by : Scanned v end ⊎ ((chain : List ℕ) × IsChainBelow R v chain × (length chain ≡ m + 1)) → Or (R v end) → Solved m end → Scanned v (suc end) ⊎ ((chain : List ℕ) × IsChainBelow R v chain × (length chain ≡ m + 1))
          by (inr chain) used solved = inr chain
          by (inl s) (inr isnt) solved = inl (scan_none v end s isnt)
          by (inl s) (inl uses) (inr c) = inr (end ∷ c.0, (uses, c.1), omega (arith, c.2))
          by (inl s) (inl uses) (inl h) = inl (more s h.0 uses h.1 (cases_lt s.rank (h.0 + 1)))

      -- where all that it uses have ranks, it has one
      ranked_by : (v : ℕ) (s : Scanned v n) → HasRank R v s.rank
      ranked_by v s = by s.reached
        where
          longest : (other : List ℕ) → IsChainBelow R v other → length other ≤ s.rank
          longest [] h = omega arith
          longest (u ∷ us) h = let r = s.ranked u (within v u h.0) h.0 in omega (arith, r.1.longest us h.1, r.2)

          by : (s.rank ≡ 0) ⊎ ((u r : ℕ) × R v u × HasRank R u r × (s.rank ≡ r + 1)) → HasRank R v s.rank
          by (inl none) = record { chain = []; below = tt; length_is = sym none; longest = longest }
          by (inr c) = record { chain = c.0 ∷ c.3.chain; below = (c.2, c.3.below); length_is = omega (arith, c.3.length_is, c.4); longest = longest }

      solved : (m v : ℕ) → Solved m v
      solved zero v = inr ([], tt, refl)
      solved (suc m) v = by (scan m v (solved m) n)
        where
          by : Scanned v n ⊎ ((chain : List ℕ) × IsChainBelow R v chain × (length chain ≡ m + 1)) → Solved (suc m) v
          by (inl s) = inl (s.rank, ranked_by v s)
          by (inr c) = inr (c.0, c.1, omega (arith, c.2))

      -- each has a rank, or there is a circle
      pub ranks_or_circle : ((v : ℕ) → v < n → (rank : ℕ) × HasRank R v rank) ⊎ Circle
      ranks_or_circle = to n
        where
          to : (end : ℕ) → ((v : ℕ) → v < end → (rank : ℕ) × HasRank R v rank) ⊎ Circle
          to zero = inl (λ v below. absurd (omega (arith, below)))
          to (suc end) = by (to end) (solved (suc n) end)
            where
              by : ((v : ℕ) → v < end → (rank : ℕ) × HasRank R v rank) ⊎ Circle → Solved (suc n) end → ((v : ℕ) → v < suc end → (rank : ℕ) × HasRank R v rank) ⊎ Circle
              by (inr circle) one = inr circle
              by (inl all) (inr c) = inr (circle_in end c.0 c.1 (omega (arith, c.2)))
              by (inl all) (inl h) = inl (λ v below. ⊎_elim
                  (λ at. (h.0, subst (λ (x : ℕ). HasRank R x h.0) (sym at) h.1))
                  (λ less. all v (⊎_elim (λ l. l) (λ past. absurd (omega (arith, past, below))) less))
                  (cases_order v end))
