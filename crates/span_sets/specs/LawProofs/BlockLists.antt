-- Runs of neighbours: the blocks so far, and those of one more first span.
use Rattle.std.proofs.Common.{◌≡◌, ℕ, suc, ◌+◌, ◌-◌, ◌<◌, ◌≤◌, ◌⊎◌, inl, inr, ◌↔◌, List, [], ◌∷◌, ◌++◌, length, map, refl, sym, ap, ap₂, ◌∙◌, subst, arith, Contains, All, AllPairs}
use Rattle.std.specs.List.{range_with_len}
use Rattle.std.proofs.lemmas.Bool.{cases_lt}
use Rattle.std.proofs.lemmas.List.{map-append, get_or-map, length-map}
use Rattle.std.proofs.lemmas.List.Elements.{All-append, Contains-append_left, Contains-append_right, Contains-append_cases}
use Rattle.std.proofs.lemmas.List.Kept.{AllPairs-cons}
use Rattle.span_token.specs.Extents.{Extent, nth_extent}
use Rattle.span_token.specs.RisingLists.{AllPairs-head, AllPairs-tail, AllPairs-range, AllPairs-map, Contains-range, in_range}
use Rattle.span_token.specs.SourceTokens.{run_extent}
use Rattle.span_sets.specs.Blocks.{IsRun, AreBlocksOf}
use Rattle.span_sets.specs.LawProofs.SpanLists.{Contains-shown, from_shown}

-- pairs of two lists end to end
pub AllPairs-append : {X : Type 0} (R : X → X → Type 0) (xs ys : List X) → AllPairs R xs → AllPairs R ys → ((x : X) → Contains xs x → All (R x) ys) → AllPairs R (xs ++ ys)
AllPairs-append R [] ys h k cross = k
AllPairs-append R (x ∷ xs) ys h k cross =
    AllPairs-cons R x (xs ++ ys) (All-append (R x) xs ys (AllPairs-head R x xs h) (cross x (0, omega arith, refl)))
    (AllPairs-append R xs ys (AllPairs-tail R x xs h) k (λ z at. cross z (suc at.0, omega (arith, at.1), at.2)))

map_map : {A B C : Type 0} (f : B → C) (g : A → B) (xs : List A) → map f (map g xs) ≡ map (λ x. f (g x)) xs
map_map f g [] = refl
map_map f g (x ∷ xs) = ap (λ ys. f (g x) ∷ ys) (map_map f g xs)

abbrev pair_with : ℕ → ℕ → ℕ × ℕ
pair_with i j = (i, j)

abbrev pub IsEarlier : ℕ × ℕ → ℕ × ℕ → Type 0
IsEarlier p q = (p.0 < q.0) ⊎ ((p.0 ≡ q.0) × (p.1 < q.1))

-- the blocks of the runs whose first span is before i
pub record HasRuns (IsNext : Extent → Extent → Type 0) (low high : ℕ) (spans : List Extent) (i : ℕ) (found : List Extent) : Type 0 where
  pub runs : List (ℕ × ℕ)
  pub rising : AllPairs IsEarlier runs
  pub exactly : (a b : ℕ) → Contains runs (a, b) ↔ ((a < i) × IsRun IsNext low high spans a b)
  pub found_is : found ≡ map (λ r. run_extent spans r.0 r.1) runs

module _ (IsNext : Extent → Extent → Type 0) (low high : ℕ) (spans : List Extent) where
  pub HasRuns-none : HasRuns IsNext low high spans 0 []
  HasRuns-none = record {
    runs = [];
    rising = λ i j d h k. absurd (omega arith);
    exactly = λ a b. ((λ at. absurd (omega (arith, at.1))), (λ h. absurd (omega (arith, h.0))));
    found_is = refl;
  }

  pub HasRuns-all : (found : List Extent) → HasRuns IsNext low high spans (length spans) found → AreBlocksOf IsNext low high spans found
  HasRuns-all found has = record {
    runs = has.runs;
    rising = has.rising;
    exactly = λ a b. ((λ at. ((has.exactly a b).0 at).1), (λ run. (has.exactly a b).1 (omega (arith, run.ordered, run.there), run)));
    blocks_are = has.found_is;
  }

  -- the runs that begin with one more span, by their last spans
  pub HasRuns-more : (i : ℕ) (ends : List ℕ) → AllPairs (λ j k. j < k) ends → ((j : ℕ) → Contains ends j ↔ IsRun IsNext low high spans i j) → (found : List Extent) → HasRuns IsNext low high spans i found → HasRuns IsNext low high spans (i + 1) (found ++ map (run_extent spans i) ends)
  HasRuns-more i ends up run found has =
      let more : List (ℕ × ℕ) = map (pair_with i) ends in
      record {
        runs = has.runs ++ more;
        rising = AllPairs-append IsEarlier has.runs more has.rising
            (AllPairs-map (pair_with i) IsEarlier ends (later ends up))
            (λ p at k d h. inl (omega (arith, ((has.exactly p.0 p.1).0 at).0, ap (λ (q : ℕ × ℕ). q.0) (get_or-map (pair_with i) ends k 0 d (omega (arith, h, length-map ends (pair_with i)))))));
        exactly = λ a b. (
          (λ at. elim (Contains-append_cases has.runs more (a, b) at) [
            | inl old ↦ let h = (has.exactly a b).0 old in (omega (arith, h.0), h.1)
            | inr new ↦
                let own = from_shown (pair_with i) ends (a, b) new in
                let first : i ≡ a = ap (λ (q : ℕ × ℕ). q.0) own.2 in
                let last : own.0 ≡ b = ap (λ (q : ℕ × ℕ). q.1) own.2 in
                (omega (arith, first), subst (λ (n : ℕ). IsRun IsNext low high spans n b) first ((run b).0 (subst (λ (n : ℕ). Contains ends n) last own.1)))
          ]),
          (λ h. elim (cases_lt a i) [
            | inl g ↦ Contains-append_left has.runs more (a, b) ((has.exactly a b).1 (g, h.1))
            | inr g ↦
                let e : a ≡ i = omega (arith, g, h.0) in
                let there = (run b).1 (subst (λ (n : ℕ). IsRun IsNext low high spans n b) e h.1) in
                Contains-append_right has.runs more (a, b) (subst (λ (n : ℕ). Contains more (n, b)) (sym e) (Contains-shown (pair_with i) ends b there))
          ]),
        );
        found_is = ap₂ (λ (xs ys : List Extent). xs ++ ys) has.found_is (sym (map_map (λ (r : ℕ × ℕ). run_extent spans r.0 r.1) (pair_with i) ends))
            ∙ sym (map-append (λ (r : ℕ × ℕ). run_extent spans r.0 r.1) has.runs more);
      }
    where
      later : (ks : List ℕ) → AllPairs (λ j k. j < k) ks → AllPairs (λ j k. IsEarlier (pair_with i j) (pair_with i k)) ks
      later ks up = λ a b d h short. inr (refl, up a b d h short)

  module _ (i end from to : ℕ) (before_end : i < end) (within : end ≤ length spans)
      (chained : (k : ℕ) → i ≤ k → k + 1 < end → IsNext (nth_extent spans k) (nth_extent spans (k + 1)))
      (stopped : end < length spans → (k : ℕ) → k + 1 ≡ end → ¬ (IsNext (nth_extent spans k) (nth_extent spans (k + 1))))
      (begins : (j : ℕ) → j < to → (from ≤ j) ↔ ((i ≤ j) × (low ≤ (j - i) + 1)))
      (ends : (j : ℕ) → i ≤ j → (j < to) ↔ ((j < end) × ((j - i) + 1 ≤ high))) where
    -- the runs that begin with span i end with the spans from..to
    run_in : (j : ℕ) → from ≤ j → j < to → IsRun IsNext low high spans i j
    run_in j low' high' =
        let a = (begins j high').0 low' in
        let b = (ends j a.0).0 high' in
        record { ordered = a.0; there = omega (arith, b, within); at_least = a.1; at_most = b.1; neighbours = λ k g h. chained k g (omega (arith, b.0, h)) }

    -- and no other
    in_run : (j : ℕ) → IsRun IsNext low high spans i j → (from ≤ j) × (j < to)
    in_run j run =
        let short : j < end = elim (cases_lt j end) [
          | inl h ↦ h
          | inr h ↦
              let e : (end - 1) + 1 ≡ end = omega (arith, before_end) in
              absurd (stopped (omega (arith, run.there, h)) (end - 1) e (run.neighbours (end - 1) (omega (arith, before_end)) (omega (arith, before_end, h))))
        ] in
        let here : j < to = (ends j run.ordered).1 (short, run.at_most) in
        ((begins j here).1 (run.ordered, run.at_least), here)

    pub HasRuns-next : (found : List Extent) → HasRuns IsNext low high spans i found → HasRuns IsNext low high spans (i + 1) (found ++ map (run_extent spans i) (range_with_len from (to - from)))
    HasRuns-next found has = HasRuns-more i (range_with_len from (to - from)) (AllPairs-range from (to - from)) runs found has
      where
        runs : (j : ℕ) → Contains (range_with_len from (to - from)) j ↔ IsRun IsNext low high spans i j
        runs j = (
          λ at. let there = in_range from (to - from) j at in run_in j there.0 (omega (arith, there)),
          λ run. let there = in_run j run in Contains-range from (to - from) j there.0 (omega (arith, there)),
        )
