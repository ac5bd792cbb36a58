-- The pairs of one row and of all rows, one row on.
use Rattle.std.proofs.Common.{◌≡◌, ℕ, zero, suc, ◌+◌, ◌<◌, ◌≤◌, true, false, Option, Some, None, List, [], ◌∷◌, ◌++◌, length, take, get_or, refl, sym, ap, ap₂, subst, ◌∙◌, arith, append-nil, length-append}
use Rattle.std.specs.List.{flat_map}
use Rattle.std.proofs.lemmas.Grind.{flat_map-append}
use Rattle.std.proofs.lemmas.List.{take_more, get_or_default, take_all}
use Rattle.std.proofs.lemmas.List.Folds.{length-flat_map-take}
use Rattle.span_token.specs.Extents.{Extent}
use Rattle.row_values.specs.Datums.{Datum}
use Rattle.span_joins.specs.declared.rule.Rule.{Rule}
use Rattle.span_joins.specs.declared.rule.Rule.TheVariants.{OverlapsFromLeft, OverlapsFromRight}
use Rattle.span_joins.specs.declared.rule.Answer.{Answer}
use Rattle.span_joins.specs.declared.rule.Answer.TheVariants.{Before, Pair, Neither, Beyond}
use Rattle.span_joins.specs.Joins.{rank}
use Rattle.span_joins.specs.Answers.{is_pair, is_exact, number_of, other_order_of, first_number}
use Rattle.span_joins.specs.JoinLaws.{row_if}
use Rattle.span_joins.specs.Sweeps.{Entry, no_entry, answer_at, row_of, pair_at, pairs_with, pairs_from, all_pairs, AreBefore, AreInOrder}
use Rattle.span_joins.proofs.AnswerLaws.{before_stays, beyond_stays, never_neither, begins_before, begins_no_later, before_begins, before_begins_no_later}

module _ {X Y : Type 0} (f : X → List Y) where
  none : (xs : List X) → ((k : ℕ) (d : X) → k < length xs → f (get_or xs k d) ≡ []) → flat_map f xs ≡ []
  none [] h = refl
  none (x ∷ xs) h = ap₂ (λ (ys zs : List Y). ys ++ zs) (h 0 x (omega arith)) (none xs (λ k d l. h (suc k) d (omega arith)))

  -- where the first n give nothing
  none_taken : (xs : List X) (n : ℕ) → ((k : ℕ) (d : X) → k < n → f (get_or xs k d) ≡ []) → flat_map f (take n xs) ≡ []
  none_taken [] zero h = refl
  none_taken [] (suc n) h = refl
  none_taken (x ∷ xs) zero h = refl
  none_taken (x ∷ xs) (suc n) h = ap₂ (λ (ys zs : List Y). ys ++ zs) (h 0 x (omega arith)) (none_taken xs n (λ k d l. h (suc k) d (omega arith)))

  -- where those from j on give nothing
  none_dropped : (xs : List X) (j : ℕ) → ((k : ℕ) (d : X) → j ≤ k → k < length xs → f (get_or xs k d) ≡ []) → flat_map f (take j xs) ≡ flat_map f xs
  none_dropped [] zero h = refl
  none_dropped [] (suc j) h = refl
  none_dropped (x ∷ xs) zero h = sym (none (x ∷ xs) (λ k d l. h k d (omega arith) l))
  none_dropped (x ∷ xs) (suc j) h = ap (λ (ys : List Y). f x ++ ys) (none_dropped xs j (λ k d m l. h (suc k) d (omega arith) (omega arith)))

  one_more : (xs : List X) (j : ℕ) (x : X) → j < length xs → x ≡ get_or xs j x → flat_map f (take (j + 1) xs) ≡ flat_map f (take j xs) ++ f x
  one_more xs j x h is =
      ap (λ ys. flat_map f ys) (take_more xs j x h ∙ ap (λ y. take j xs ++ y ∷ []) (sym is)) ∙ flat_map-append f (take j xs) (x ∷ [])
      ∙ ap (λ (ys : List Y). flat_map f (take j xs) ++ ys) (append-nil (f x))

  room_for : (xs : List X) (j : ℕ) (x : X) → j < length xs → x ≡ get_or xs j x → length (flat_map f (take j xs)) + length (f x) ≤ length (flat_map f xs)
  room_for xs j x h is = subst (λ y. length (flat_map f (take j xs)) + length (f y) ≤ length (flat_map f xs)) (sym is) (length-flat_map-take f xs j x h)

  within : (xs : List X) (j : ℕ) → length (flat_map f (take j xs)) ≤ length (flat_map f xs)
  within [] zero = omega arith
  within [] (suc j) = omega arith
  within (x ∷ xs) zero = omega arith
  within (x ∷ xs) (suc j) = omega (arith, length-append (f x) (flat_map f (take j xs)), length-append (f x) (flat_map f xs), within xs j)

-- rows in front of one that is too near are too near, for later first rows too
near_stays : (rule : Rule) (a a' : Extent) (o o' : Option Extent) → first_number rule a ≤ first_number rule a' → rank (number_of (other_order_of rule)) o' ≤ rank (number_of (other_order_of rule)) o
    → answer_at rule a o ≡ Before → answer_at rule a' o' ≡ Before
near_stays rule a a' o None h k e = refl
near_stays rule a a' None (Some b') h k e = absurd (omega arith)
near_stays rule a a' (Some b) (Some b') h k e = before_stays rule a b a' b' h (omega arith) e

-- and rows behind one that is too far are too far
far_stays : (rule : Rule) (a : Extent) (o o' : Option Extent) → rank (number_of (other_order_of rule)) o ≤ rank (number_of (other_order_of rule)) o' → answer_at rule a o ≡ Beyond → answer_at rule a o' ≡ Beyond
far_stays rule a None o' k e = absurd cc
far_stays rule a (Some b) None k e = absurd (omega arith)
far_stays rule a (Some b) (Some b') k e = beyond_stays rule a b b' (omega arith) e

-- a span that is neither too near nor too far makes a pair
pub never_neither_at : (rule : Rule) (a : Extent) (o : Option Extent) → is_exact rule ≡ true → answer_at rule a o ≡ Neither → ⊥
never_neither_at rule a None exact e = absurd cc
never_neither_at rule a (Some b) exact e = never_neither rule a b exact e

module _ (rule : Rule) (a : Extent) (first : List Datum) where
  pair_is : (other : Entry) (r : Answer) → answer_at rule a other.span ≡ r → pair_at rule a first other ≡ row_if (is_pair r) (row_of rule first other.values)
  pair_is other r e = ap (λ t. row_if (is_pair t) (row_of rule first other.values)) e

  module _ (others : List Entry) where
    -- those that are too near make no pair
    pub pairs_none : (n : ℕ) → AreBefore rule a others n → pairs_with rule a first (take n others) ≡ []
    unfolding pairs_with
    pairs_none n h = none_taken (pair_at rule a first) others n (λ k d l. pair_is (get_or others k d) Before (h.each k d l))

    pub pairs_all : (n : ℕ) → length others ≤ n → pairs_with rule a first (take n others) ≡ pairs_with rule a first others
    pairs_all n h = ap (λ (os : List Entry). pairs_with rule a first os) (take_all n others h)

    pub pairs_within : (j : ℕ) → length (pairs_with rule a first (take j others)) ≤ length (pairs_with rule a first others)
    unfolding pairs_with
    pairs_within j = within (pair_at rule a first) others j

    module _ (j : ℕ) (other : Entry) (below : j < length others) (is : other ≡ get_or others j other) where
      -- one more, with its pair or without
      pub pairs_same : (r : Answer) → is_pair r ≡ false → r ≡ answer_at rule a other.span → pairs_with rule a first (take (j + 1) others) ≡ pairs_with rule a first (take j others)
      unfolding pairs_with
      pairs_same r n e =
          one_more (pair_at rule a first) others j other below is
          ∙ ap (λ (ys : List (List Datum)). flat_map (pair_at rule a first) (take j others) ++ ys) (pair_is other r (sym e) ∙ ap (λ b. row_if b (row_of rule first other.values)) n)
          ∙ append-nil _

      pub pairs_more : Pair ≡ answer_at rule a other.span → pairs_with rule a first (take (j + 1) others) ≡ pairs_with rule a first (take j others) ++ row_of rule first other.values ∷ []
      unfolding pairs_with
      pairs_more e =
          one_more (pair_at rule a first) others j other below is
          ∙ ap (λ (ys : List (List Datum)). flat_map (pair_at rule a first) (take j others) ++ ys) (pair_is other Pair (sym e))

      pub pairs_room : Pair ≡ answer_at rule a other.span → length (pairs_with rule a first (take j others)) + 1 ≤ length (pairs_with rule a first others)
      unfolding pairs_with
      pairs_room e = omega (arith, room_for (pair_at rule a first) others j other below is, ap length (pair_is other Pair (sym e)))

      module _ (rise : AreInOrder (other_order_of rule) others) where
        -- one that is too near, and so are those in front of it
        pub AreBefore-next : Before ≡ answer_at rule a other.span → AreBefore rule a others (j + 1)
        AreBefore-next e = record {
          in_list = omega arith;
          each = λ k d l.
              let there = rise k j d (omega arith) below in
              let same : get_or others j d ≡ other = get_or_default others j d other below ∙ sym is in
              near_stays rule a a other.span (get_or others k d).span (omega arith) (subst (λ (o : Entry). rank (number_of (other_order_of rule)) (get_or others k d).span ≤ rank (number_of (other_order_of rule)) o.span) same there) (sym e);
        }

        -- one that is too far, and so are those behind it
        pub pairs_beyond : Beyond ≡ answer_at rule a other.span → pairs_with rule a first (take j others) ≡ pairs_with rule a first others
        unfolding pairs_with
        pairs_beyond e = none_dropped (pair_at rule a first) others j (λ k d low high.
            let there = rise j k d low high in
            let same : get_or others j d ≡ other = get_or_default others j d other below ∙ sym is in
            pair_is (get_or others k d) Beyond (far_stays rule a other.span (get_or others k d).span
            (subst (λ (o : Entry). rank (number_of (other_order_of rule)) o.span ≤ rank (number_of (other_order_of rule)) (get_or others k d).span) same there) (sym e)))

pub none_too_near : (rule : Rule) (a : Extent) (others : List Entry) → AreBefore rule a others 0
none_too_near rule a others = record { in_list = omega arith; each = λ k d l. absurd (omega arith) }

-- what is too near for one row is too near for the later ones
pub AreBefore-later : (rule : Rule) (a a' : Extent) (others : List Entry) (n : ℕ) → first_number rule a ≤ first_number rule a' → AreBefore rule a others n → AreBefore rule a' others n
AreBefore-later rule a a' others n h before = record {
  in_list = before.in_list;
  each = λ k d l. near_stays rule a a' (get_or others k d).span (get_or others k d).span h (omega arith) (before.each k d l);
}

module _ (rule : Rule) (firsts others : List Entry) where
  pub all_pairs_none : all_pairs rule (take 0 firsts) others ≡ []
  unfolding all_pairs
  all_pairs_none = refl

  pub all_pairs_all : (n : ℕ) → length firsts ≤ n → all_pairs rule (take n firsts) others ≡ all_pairs rule firsts others
  all_pairs_all n h = ap (λ (fs : List Entry). all_pairs rule fs others) (take_all n firsts h)

  pub all_pairs_within : (n : ℕ) → length (all_pairs rule (take n firsts) others) ≤ length (all_pairs rule firsts others)
  unfolding all_pairs
  all_pairs_within n = within (λ (first : Entry). pairs_from rule first.span first.values others) firsts n

  module _ (i : ℕ) (first : Entry) (below : i < length firsts) (is : first ≡ get_or firsts i first) where
    pub all_pairs_more : all_pairs rule (take (i + 1) firsts) others ≡ all_pairs rule (take i firsts) others ++ pairs_from rule first.span first.values others
    unfolding all_pairs
    all_pairs_more = one_more (λ (f : Entry). pairs_from rule f.span f.values others) firsts i first below is

    pub all_pairs_room : length (all_pairs rule (take i firsts) others) + length (pairs_from rule first.span first.values others) ≤ length (all_pairs rule firsts others)
    unfolding all_pairs
    all_pairs_room = room_for (λ (f : Entry). pairs_from rule f.span f.values others) firsts i first below is

-- what begins before a left span, and what begins no later than a right one, was met before
from_left : (a : Extent) (o : Option Extent) → rank (λ e. e.begin) o < a.begin + 1 → answer_at OverlapsFromLeft a o ≡ Before
from_left a None h = refl
from_left a (Some b) h = begins_before a b (omega arith)

from_right : (a : Extent) (o : Option Extent) → rank (λ e. e.begin) o ≤ a.begin + 1 → answer_at OverlapsFromRight a o ≡ Before
from_right a None h = refl
from_right a (Some b) h = begins_no_later a b (omega arith)

module _ (a : Extent) (others : List Entry) (n : ℕ) (inside : n ≤ length others) where
  pub from_left-before : ((k : ℕ) → k < n → rank (λ e. e.begin) (get_or others k no_entry).span < a.begin + 1) → AreBefore OverlapsFromLeft a others n
  from_left-before h = record {
    in_list = inside;
    each = λ k d low. subst (λ (e : Entry). answer_at OverlapsFromLeft a e.span ≡ Before) (get_or_default others k no_entry d (omega arith)) (from_left a (get_or others k no_entry).span (h k low));
  }

  pub from_right-before : ((k : ℕ) → k < n → rank (λ e. e.begin) (get_or others k no_entry).span ≤ a.begin + 1) → AreBefore OverlapsFromRight a others n
  from_right-before h = record {
    in_list = inside;
    each = λ k d low. subst (λ (e : Entry). answer_at OverlapsFromRight a e.span ≡ Before) (get_or_default others k no_entry d (omega arith)) (from_right a (get_or others k no_entry).span (h k low));
  }

-- what begins no earlier than a left span, and what begins after a right one, isn't too near
pub from_left-never : (a : Extent) (o : Option Extent) → a.begin + 1 ≤ rank (λ e. e.begin) o → answer_at OverlapsFromLeft a o ≡ Before → ⊥
from_left-never a None h e = absurd (omega arith)
from_left-never a (Some b) h e = absurd (omega (arith, before_begins a b e))

pub from_right-never : (a : Extent) (o : Option Extent) → a.begin + 1 < rank (λ e. e.begin) o → answer_at OverlapsFromRight a o ≡ Before → ⊥
from_right-never a None h e = absurd (omega arith)
from_right-never a (Some b) h e = absurd (omega (arith, before_begins_no_later a b e))
