-- Lists of spans: the distinct ones, in order.
use Rattle.std.proofs.Common.{◌≡◌, ℕ, zero, suc, ◌<◌, ◌≤◌, inl, inr, Bool, true, false, cond, List, [], ◌∷◌, length, map, get_or, refl, sym, ap, ◌∙◌, subst, arith, Contains, AllPairs, nat_cmp, eqb, ltb}
use Rattle.std.specs.List.{dedup}
use Rattle.std.specs.List.Sorted.{IsPermutation, IsSorted}
use Rattle.std.specs.Cmp.{IsTotalOrder, IsEquivalence}
use Rattle.std.specs.Ordering.{on, then_cmp, eq_by_cmp, is_eq}
use Rattle.std.specs.declared.cmp.Ordering.{Ordering}
use Rattle.std.specs.declared.cmp.Ordering.TheVariants.{Less, Equal, Greater}
use Rattle.std.proofs.lemmas.Bool.{cases_lt, ltb-true, eqb-true}
use Rattle.std.proofs.lemmas.Cmp.{nat_cmp_total, on_total, then_total, eq_by_cmp_equiv}
use Rattle.std.proofs.lemmas.List.{get_or-map, length-map}
use Rattle.std.proofs.lemmas.List.Elements.{All-map}
use Rattle.std.proofs.lemmas.List.Kept.{AllPairs-cons, IsStrictlySortedBy-dedup, Any-dedup, Contains-from_dedup}
use Rattle.std.proofs.lemmas.List.Sorted.{IsPermutation-sym, Contains-permutation}
use Rattle.span_token.specs.Extents.{Extent, extent_of, nth_extent}
use Rattle.span_token.specs.declared.span.Span.{Span}
use Rattle.span_token.specs.ExtentLaws.{same_extent}
use Rattle.span_token.specs.RisingLists.{AllPairs-head, AllPairs-tail, Contains-here, Contains-there, Contains-cases}
use Rattle.span_token.specs.SpanOrder.{IsBefore}
use Rattle.span_sets.specs.Blocks.{AreDistinct}
use Rattle.span_sets.specs.LawProofs.CandidateLists.{pairs, nat_exact, nat_less, then_less, then_equal}

-- spans by begin and then by end
abbrev pub span_cmp : Span → Span → Ordering
span_cmp = then_cmp (on (λ (s : Span). s.begin) nat_cmp) (on (λ (s : Span). s.end) nat_cmp)

span_cmp_total : IsTotalOrder span_cmp
span_cmp_total = then_total (on_total (λ (s : Span). s.begin) nat_cmp_total) (on_total (λ (s : Span). s.end) nat_cmp_total)

span_less : (s t : Span) → span_cmp s t ≡ Less → IsBefore (extent_of s) (extent_of t)
span_less s t e = elim (then_less (nat_cmp s.begin t.begin) (nat_cmp s.end t.end) e) [
  | inl h ↦ inl (nat_less s.begin t.begin h)
  | inr h ↦ inr (nat_exact s.begin t.begin h.0, nat_less s.end t.end h.1)
]

-- whether the order of numbers doesn't tell two apart
pub nat_tied : (m n : ℕ) → is_eq (nat_cmp m n) ≡ eqb m n
nat_tied m n = by (ltb m n) (eqb m n) refl refl
  where
    by : (less same : Bool) → ltb m n ≡ less → eqb m n ≡ same → is_eq (cond less Less (cond same Equal Greater)) ≡ same
    by true true p q = absurd (omega (arith, ltb-true m n p, eqb-true m n q))
    by true false p q = refl
    by false true p q = refl
    by false false p q = refl

tied : (o : Ordering) → is_eq o ≡ true → o ≡ Equal
tied Less e = absurd cc
tied Equal e = refl
tied Greater e = absurd cc

same_span : (s t : Span) → eq_by_cmp span_cmp s t ≡ true → extent_of t ≡ extent_of s
same_span s t e =
    let both = then_equal (nat_cmp s.begin t.begin) (nat_cmp s.end t.end) (tied (span_cmp s t) e) in
    same_extent (extent_of t) (extent_of s) (sym (nat_exact s.begin t.begin both.0)) (sym (nat_exact s.end t.end both.1))

AllPairs-shown : {A B : Type 0} (f : A → B) (R : B → B → Type 0) (xs : List A) → AllPairs (λ x y. R (f x) (f y)) xs → AllPairs R (map f xs)
AllPairs-shown f R [] h = λ i j d less short. absurd (omega arith)
AllPairs-shown f R (x ∷ xs) h =
    AllPairs-cons R (f x) (map f xs) (All-map (R (f x)) f xs (AllPairs-head (λ a b. R (f a) (f b)) x xs h)) (AllPairs-shown f R xs (AllPairs-tail (λ a b. R (f a) (f b)) x xs h))

pub AllPairs-weaker : {A : Type 0} (P Q : A → A → Type 0) → ((x y : A) → P x y → Q x y) → (xs : List A) → AllPairs P xs → AllPairs Q xs
AllPairs-weaker P Q h xs all = λ i j d less short. h (get_or xs i d) (get_or xs j d) (all i j d less short)

pub Contains-shown : {A B : Type 0} (f : A → B) (xs : List A) (x : A) → Contains xs x → Contains (map f xs) (f x)
Contains-shown f xs x at = (at.0, omega (arith, at.1, length-map xs f), get_or-map f xs at.0 x (f x) at.1 ∙ ap f at.2)

pub from_shown : {A B : Type 0} (f : A → B) (xs : List A) (y : B) → Contains (map f xs) y → (x : A) × Contains xs x × (f x ≡ y)
from_shown f [] y at = absurd (omega (arith, at.1))
from_shown f (x ∷ xs) y at = elim (Contains-cases (f x) (map f xs) y at) [
  | inl e ↦ (x, Contains-here x xs, e)
  | inr later ↦ let own = from_shown f xs y later in (own.0, Contains-there x xs own.0 own.1, own.2)
]

-- what a sort and `dedup` leave are the distinct spans
pub AreDistinct-from_dedup : (E : Span → Span → Bool) → ((s t : Span) → E s t ≡ eq_by_cmp span_cmp s t) → (given sorted : List Span) → IsPermutation given sorted → IsSorted span_cmp sorted → AreDistinct (map extent_of given) (map extent_of (dedup E sorted))
AreDistinct-from_dedup E ties given sorted bag up =
    let alike : IsEquivalence E = subst (λ (e : Span → Span → Bool). IsEquivalence e) (λ i s t. sym (ties s t) i) (eq_by_cmp_equiv span_cmp_total) in
    record {
      rising = AllPairs-shown extent_of IsBefore (dedup E sorted) (AllPairs-weaker (λ s t. span_cmp s t ≡ Less) (λ s t. IsBefore (extent_of s) (extent_of t)) span_less (dedup E sorted) (pairs span_cmp (dedup E sorted) (IsStrictlySortedBy-dedup span_cmp_total ties sorted up)));
      exactly = λ e. (
        (λ at.
            let own = from_shown extent_of (dedup E sorted) e at in
            subst (λ (x : Extent). Contains (map extent_of given) x) own.2 (Contains-shown extent_of given own.0 (Contains-permutation sorted given own.0 (IsPermutation-sym given sorted bag) (Contains-from_dedup E sorted own.0 own.1)))),
        (λ at.
            let own = from_shown extent_of given e at in
            let kept = Any-dedup alike sorted own.0 (Contains-permutation given sorted own.0 bag own.1) in
            subst (λ (x : Extent). Contains (map extent_of (dedup E sorted)) x) (same_span own.0 kept.1 (sym (ties own.0 kept.1) ∙ kept.4) ∙ own.2) (Contains-shown extent_of (dedup E sorted) kept.1 (kept.0, kept.2, kept.3))),
      );
    }

-- a span begins at or before its end
pub spans_ordered : (spans : List Span) (k : ℕ) → (nth_extent (map extent_of spans) k).begin ≤ (nth_extent (map extent_of spans) k).end
spans_ordered [] k = omega arith
spans_ordered (s ∷ spans) zero = s.ordered
spans_ordered (s ∷ spans) (suc k) = spans_ordered spans k

-- spans that rise begin at or after the ones before
pub begins_rise : (spans : List Extent) → AllPairs IsBefore spans → (i j : ℕ) → i ≤ j → j < length spans → (nth_extent spans i).begin ≤ (nth_extent spans j).begin
begins_rise spans up i j h short = elim (cases_lt i j) [
  | inl g ↦ omega (arith, up i j (record { begin = 0; end = 0 }) g short)
  | inr g ↦ let e : i ≡ j = omega arith in omega (arith, ap (λ (n : ℕ). (nth_extent spans n).begin) e)
]
