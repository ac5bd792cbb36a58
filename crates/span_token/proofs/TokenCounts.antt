-- How many tokens there are, and how many of them stand before a place.
use Rattle.std.proofs.Common.{◌≡◌, ◌≤◌, ◌<◌, ◌+◌, ◌∙◌, ℕ, zero, suc, Bool, true, false, cond, slice_get, Some, List, [], ◌∷◌, length, map, get_or, take, refl, sym, ap, subst, arith, IsUtf8, chars}
use Rattle.std.specs.List.{filter, count_by, range_with_len}
use Rattle.std.specs.List.Sorted.{IsNonDecreasingBy, IsPartitionPoint}
use Rattle.std.proofs.Common.{inl, inr}
use Rattle.std.proofs.lemmas.Bool.{cases_lt}
use Rattle.std.proofs.lemmas.List.{length-map, get_or-map, length-take-le}
use Rattle.std.proofs.lemmas.List.FromFn.{length-range_with_len}
use Rattle.std.proofs.lemmas.List.Sums.{count_by-le-length, length-filter, sum_by-cons}
use Rattle.std.proofs.lemmas.Option.{get_or_from_slice_get, slice_get_within}
use Rattle.span_token.specs.Extents.{Extent}
use Rattle.span_token.specs.Tokens.{IsToken, begins_token, token_at, tokens_of}
use Rattle.span_token.proofs.LeadsLemmas.{leads-chars, leads-le-length}
use Rattle.span_token.specs.TokenLaws.{tokens_of_are, token_not_empty, token_in_list, apart}

-- there are no more tokens than characters, and no more characters than bytes
pub tokens-le-chars : (cs : List ℕ) → length (tokens_of cs) ≤ length cs
unfolding tokens_of
tokens-le-chars cs =
    omega (arith, length-map (filter (begins_token cs) (range_with_len 0 (length cs))) (token_at cs), length-filter (begins_token cs) (range_with_len 0 (length cs)), count_by-le-length (begins_token cs) (range_with_len 0 (length cs)), length-range_with_len 0 (length cs))

pub tokens-le-bytes : (bs : List ℕ) → IsUtf8 bs → length (tokens_of (chars bs)) ≤ length bs
tokens-le-bytes bs u = omega (arith, tokens-le-chars (chars bs), leads-chars bs u, leads-le-length bs)

-- a count, one token on
pub count_yes : {X : Type 0} (p : X → Bool) (x : X) (xs : List X) → p x ≡ true → count_by p (x ∷ xs) ≡ 1 + count_by p xs
count_yes p x xs e = sum_by-cons (λ y. cond (p y) 1 0) x xs ∙ ap (λ b. cond b 1 0 + count_by p xs) e

pub count_no : {X : Type 0} (p : X → Bool) (x : X) (xs : List X) → p x ≡ false → count_by p (x ∷ xs) ≡ count_by p xs
count_no p x xs e =
    let none : 0 + count_by p xs ≡ count_by p xs = omega arith in
    sum_by-cons (λ y. cond (p y) 1 0) x xs ∙ ap (λ b. cond b 1 0 + count_by p xs) e ∙ none

-- what passes stands before the point, and what doesn't from it on
pub filter_to_point : {X : Type 0} (p : X → Bool) (xs : List X) (n : ℕ) → n ≤ length xs → IsPartitionPoint (λ x. p x ≡ true) (λ x. p x ≡ false) xs n
    → filter p xs ≡ take n xs
filter_to_point p [] zero h point = refl
filter_to_point p [] (suc n) h point = refl
filter_to_point p (x ∷ xs) zero h point =
    rw (point.1 0 x (omega arith) (omega arith)) (filter_to_point p xs zero (omega arith) (λ k d low high. absurd (omega arith), λ k d low high. point.1 (suc k) d (omega arith) (omega arith)))
filter_to_point p (x ∷ xs) (suc n) h point =
    rw (point.0 0 x (omega arith) (omega arith))
    (ap (λ ys. x ∷ ys) (filter_to_point p xs n (omega arith) (λ k d low high. point.0 (suc k) d (omega arith) (omega arith), λ k d low high. point.1 (suc k) d (omega arith) (omega arith))))

pub count_to_point : {X : Type 0} (p : X → Bool) (xs : List X) (n : ℕ) → n ≤ length xs → IsPartitionPoint (λ x. p x ≡ true) (λ x. p x ≡ false) xs n → n ≡ count_by p xs
count_to_point p xs n h point =
    sym (length-take-le n xs h) ∙ ap length (sym (filter_to_point p xs n h point)) ∙ length-filter p xs

-- tokens rise by their begins and by their ends
pub begins_rise : (cs : List ℕ) → IsNonDecreasingBy (λ t. t.begin) (tokens_of cs)
begins_rise cs i j d h l =
    elim (cases_lt i j) [
      | inl before ↦ omega (arith, (tokens_of_are cs).rising i j d before l)
      | inr same ↦ let k : i ≡ j = omega arith in omega (arith, ap (λ n. (get_or (tokens_of cs) n d).begin) k)
    ]

pub ends_rise : (cs : List ℕ) → IsNonDecreasingBy (λ t. t.end) (tokens_of cs)
ends_rise cs i j d h l =
    elim (cases_lt i j) [
      | inl before ↦ omega (arith, apart cs i j d before l, token_not_empty cs (get_or (tokens_of cs) j d) (token_in_list cs j d l))
      | inr same ↦ let k : i ≡ j = omega arith in omega (arith, ap (λ n. (get_or (tokens_of cs) n d).end) k)
    ]

-- the same for the spans that a document keeps
pub rise_before_map : {X Y : Type 0} (f : X → Y) (n : Y → ℕ) (xs : List X) → IsNonDecreasingBy n (map f xs) → IsNonDecreasingBy (λ x. n (f x)) xs
rise_before_map f n xs rise i j d h l =
    let here = get_or-map f xs i d (f d) (omega arith) in
    let there = get_or-map f xs j d (f d) l in
    omega (arith, rise i j (f d) h (omega (arith, length-map xs f)), ap n here, ap n there)

pub count_by-map : {X Y : Type 0} (f : X → Y) (p : Y → Bool) (xs : List X) → count_by p (map f xs) ≡ count_by (λ x. p (f x)) xs
count_by-map f p [] = refl
count_by-map f p (x ∷ xs) =
    sum_by-cons (λ y. cond (p y) 1 0) (f x) (map f xs) ∙ ap (λ n. cond (p (f x)) 1 0 + n) (count_by-map f p xs)
    ∙ sym (sum_by-cons (λ y. cond (p (f y)) 1 0) x xs)

pub listed_token : (cs : List ℕ) (i : ℕ) (t : Extent) → slice_get (tokens_of cs) i ≡ Some t → IsToken cs t
listed_token cs i t e =
    subst (IsToken cs) (get_or_from_slice_get (tokens_of cs) i t t e) (token_in_list cs i t (slice_get_within (tokens_of cs) i t e))

pub listed_apart : (cs : List ℕ) (i j : ℕ) (t u : Extent) → i < j → slice_get (tokens_of cs) i ≡ Some t → slice_get (tokens_of cs) j ≡ Some u → t.end ≤ u.begin
listed_apart cs i j t u h e f =
    let here : get_or (tokens_of cs) i t ≡ t = get_or_from_slice_get (tokens_of cs) i t t e in
    let there : get_or (tokens_of cs) j t ≡ u = get_or_from_slice_get (tokens_of cs) j u t f in
    omega (arith, apart cs i j t h (slice_get_within (tokens_of cs) j u f), ap (λ (x : Extent). x.end) here, ap (λ (x : Extent). x.begin) there)
