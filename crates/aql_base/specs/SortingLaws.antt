-- Laws of lists in order: the sorted list is in order and the same bag, and no other list is.
use Rattle.std.proofs.Common.{◌≡◌, ℕ, zero, suc, ◌+◌, ◌<◌, length, map, Bool, true, false, cond, List, [], ◌∷◌, get_or, refl, sym, ap, subst, ◌∙◌, arith, All, true≢false}
use Rattle.std.specs.Cmp.{IsTotalOrder}
use Rattle.std.specs.List.{IsAllAdjacentAnswer}
use Rattle.std.specs.Prelude.{IsTrue, ◌↔◌}
use Rattle.std.specs.List.Sorted.{IsSorted}
use Rattle.std.specs.Ordering.{is_lt, is_le, is_gt, ordering_reverse}
use Rattle.std.specs.declared.cmp.Ordering.{Ordering}
use Rattle.std.specs.declared.cmp.Ordering.TheVariants.{Less, Equal, Greater}
use Rattle.std.proofs.lemmas.Cmp.{upto}
use Rattle.std.proofs.lemmas.List.{length-map, get_or-map}
use Rattle.std.proofs.lemmas.List.Elements.{All-cons, All-weaker}
use Rattle.std.proofs.lemmas.List.Sorted.{IsPermutation-refl, IsPermutation-sym, IsPermutation-trans, IsPermutation-cons, All-permutation, Contains-permutation, length_permutation, sorted_far, ranks_by}
use Rattle.aql_base.specs.Bags.{SameBag}
use Rattle.aql_base.specs.Sorting.{put_in_order, sorted_by}
use Rattle.aql_base.specs.BagLaws.{SameBag-exchange}
use Rattle.aql_base.specs.CountLaws.{SameBag-uncons}

module _ {X : Type 0} {cmp : X → X → Ordering} (order : IsTotalOrder cmp) where
  -- x doesn't come after y
  abbrev upto' : X → X → Type 0
  upto' x y = is_lt (cmp y x) ≡ false

  turned : (o : Ordering) → is_lt (ordering_reverse o) ≡ is_gt o
  turned Less = refl
  turned Equal = refl
  turned Greater = refl

  not_after : (x y : X) → is_lt (cmp y x) ≡ false → is_gt (cmp x y) ≡ false
  not_after x y h = sym (turned (cmp x y)) ∙ ap is_lt (sym (order.antisymm y x)) ∙ h

  after_not : (x y : X) → is_gt (cmp x y) ≡ false → is_lt (cmp y x) ≡ false
  after_not x y h = ap is_lt (order.antisymm y x) ∙ turned (cmp x y) ∙ h

  chained : (x y z : X) → upto' x y → upto' y z → upto' x z
  chained x y z h k = after_not x z (upto order x y z (not_after x y h) (not_after y z k))

  less_is : (x y : X) (o : Ordering) → cmp y x ≡ o → is_lt o ≡ true → upto' y x
  less_is x y Less e h = ap is_lt (order.antisymm x y ∙ ap ordering_reverse e)
  less_is x y Equal e h = absurd (true≢false (sym h))
  less_is x y Greater e h = absurd (true≢false (sym h))

  step : (k : ℕ) → suc (k + 1) ≡ suc k + 1
  step k = omega arith

  -- the list is in order where each element comes before none in front of it
  pub IsSorted-cons : (x : X) (xs : List X) → All (λ y. is_lt (cmp y x) ≡ false) xs → IsSorted cmp xs → IsSorted cmp (x ∷ xs)
  IsSorted-cons x xs first rest zero d low high = first zero d (omega arith)
  IsSorted-cons x xs first rest (suc k) d low high =
      let h : is_lt (cmp (get_or xs (k + 1) d) (get_or xs k d)) ≡ false = rest k d (omega arith) (omega arith) in
      subst (λ n. is_lt (cmp (get_or (x ∷ xs) n d) (get_or xs k d)) ≡ false) (step k) h

  pub IsSorted-tail : (x : X) (xs : List X) → IsSorted cmp (x ∷ xs) → IsSorted cmp xs
  IsSorted-tail x xs h k d low high =
      subst (λ n. is_lt (cmp (get_or (x ∷ xs) n d) (get_or xs k d)) ≡ false) (sym (step k)) (h (suc k) d (omega arith) (omega arith))

  pub IsSorted-head : (x : X) (xs : List X) → IsSorted cmp (x ∷ xs) → All (λ y. is_lt (cmp y x) ≡ false) xs
  IsSorted-head x xs h k d below = sorted_far (λ a b. is_lt (cmp a b)) (ranks_by order (λ (a : X). a)) (x ∷ xs) h zero (suc k) d (omega arith) (omega arith)

  -- putting a value in its place keeps the bag and the order
  pub SameBag-put_in_order : (x : X) (xs : List X) → SameBag (x ∷ xs) (put_in_order cmp x xs)
  unfolding put_in_order
  SameBag-put_in_order x [] = IsPermutation-refl (x ∷ [])
  SameBag-put_in_order x (y ∷ ys) = by (is_lt (cmp y x)) (SameBag-put_in_order x ys)
    where
      by : (b : Bool) → SameBag (x ∷ ys) (put_in_order cmp x ys) → SameBag (x ∷ y ∷ ys) (cond b (y ∷ put_in_order cmp x ys) (x ∷ y ∷ ys))
      by true h = IsPermutation-trans (x ∷ y ∷ ys) (y ∷ x ∷ ys) (y ∷ put_in_order cmp x ys) (SameBag-exchange (x ∷ []) (y ∷ []) ys) (IsPermutation-cons y (x ∷ ys) (put_in_order cmp x ys) h)
      by false h = IsPermutation-refl (x ∷ y ∷ ys)

  pub IsSorted-put_in_order : (x : X) (xs : List X) → IsSorted cmp xs → IsSorted cmp (put_in_order cmp x xs)
  unfolding put_in_order
  IsSorted-put_in_order x [] h = λ k d low high. absurd (omega arith)
  IsSorted-put_in_order x (y ∷ ys) h = by (is_lt (cmp y x)) refl (IsSorted-put_in_order x ys)
    where
      by : (b : Bool) → is_lt (cmp y x) ≡ b → (IsSorted cmp ys → IsSorted cmp (put_in_order cmp x ys)) → IsSorted cmp (cond b (y ∷ put_in_order cmp x ys) (x ∷ y ∷ ys))
      by true e later =
          let first : All (λ z. is_lt (cmp z y) ≡ false) (x ∷ ys) = All-cons (λ z. is_lt (cmp z y) ≡ false) x ys (less_is x y (cmp y x) refl e) (IsSorted-head y ys h) in
          IsSorted-cons y (put_in_order cmp x ys) (All-permutation (λ z. is_lt (cmp z y) ≡ false) (x ∷ ys) (put_in_order cmp x ys) (SameBag-put_in_order x ys) first) (later (IsSorted-tail y ys h))
      by false e later =
          let first : All (λ z. is_lt (cmp z x) ≡ false) (y ∷ ys) = All-cons (λ z. is_lt (cmp z x) ≡ false) y ys e (All-weaker (λ z. is_lt (cmp z y) ≡ false) (λ z. is_lt (cmp z x) ≡ false) (λ z k. chained x y z e k) ys (IsSorted-head y ys h)) in
          IsSorted-cons x (y ∷ ys) first h

  -- the sorted list is the same bag, and in order
  pub SameBag-sorted_by : (xs : List X) → SameBag xs (sorted_by cmp xs)
  unfolding sorted_by
  SameBag-sorted_by [] = IsPermutation-refl []
  SameBag-sorted_by (x ∷ xs) = IsPermutation-trans _ _ _ (IsPermutation-cons x xs (sorted_by cmp xs) (SameBag-sorted_by xs)) (SameBag-put_in_order x (sorted_by cmp xs))

  pub IsSorted-sorted_by : (xs : List X) → IsSorted cmp (sorted_by cmp xs)
  unfolding sorted_by
  IsSorted-sorted_by [] = λ k d low high. absurd (omega arith)
  IsSorted-sorted_by (x ∷ xs) = IsSorted-put_in_order x (sorted_by cmp xs) (IsSorted-sorted_by xs)

  module _ (exact : (x y : X) → cmp x y ≡ Equal → x ≡ y) where
    neither : (x y : X) (o : Ordering) → cmp x y ≡ o → is_lt (cmp x y) ≡ false → is_lt (cmp y x) ≡ false → x ≡ y
    neither x y Less e h k = absurd (true≢false (ap is_lt (sym e) ∙ h))
    neither x y Equal e h k = exact x y e
    neither x y Greater e h k = absurd (true≢false (ap is_gt (sym e) ∙ not_after x y k))

    first_is : (x y : X) (xs ys : List X) → IsSorted cmp (y ∷ ys) → SameBag (x ∷ xs) (y ∷ ys) → is_lt (cmp x y) ≡ false
    first_is x y xs ys h bag =
        let at = Contains-permutation (x ∷ xs) (y ∷ ys) x bag (zero, omega arith, refl) in
        subst (λ z. is_lt (cmp z y) ≡ false) at.2 (sorted_far (λ a b. is_lt (cmp a b)) (ranks_by order (λ (a : X). a)) (y ∷ ys) h zero at.0 x (omega arith) at.1)

    -- two lists that are in order and one bag are equal
    pub sorted_bags_equal : (xs ys : List X) → IsSorted cmp xs → IsSorted cmp ys → SameBag xs ys → xs ≡ ys
    sorted_bags_equal [] [] h k bag = refl
    sorted_bags_equal [] (y ∷ ys) h k bag = absurd (omega (arith, length_permutation [] (y ∷ ys) bag))
    sorted_bags_equal (x ∷ xs) [] h k bag = absurd (omega (arith, length_permutation (x ∷ xs) [] bag))
    sorted_bags_equal (x ∷ xs) (y ∷ ys) h k bag =
        let e : x ≡ y = neither x y (cmp x y) refl (first_is x y xs ys k bag) (first_is y x ys xs h (IsPermutation-sym _ _ bag)) in
        let rest : SameBag xs ys = SameBag-uncons order exact x xs ys (subst (λ z. SameBag (x ∷ xs) (z ∷ ys)) (sym e) bag) in
        let tails : xs ≡ ys = sorted_bags_equal xs ys (IsSorted-tail x xs h) (IsSorted-tail y ys k) rest in
        λ i. e i ∷ tails i

    -- a list in order and of the same bag is the sorted list
    pub sorted_by-unique : (xs ys : List X) → IsSorted cmp ys → SameBag xs ys → ys ≡ sorted_by cmp xs
    sorted_by-unique xs ys h bag = sorted_bags_equal ys (sorted_by cmp xs) h (IsSorted-sorted_by xs) (IsPermutation-trans _ _ _ (IsPermutation-sym xs ys bag) (SameBag-sorted_by xs))

    pub sorted_by-SameBag : (xs ys : List X) → SameBag xs ys → sorted_by cmp xs ≡ sorted_by cmp ys
    sorted_by-SameBag xs ys bag = sorted_by-unique ys (sorted_by cmp xs) (IsSorted-sorted_by xs) (IsPermutation-trans _ _ _ (IsPermutation-sym xs ys bag) (SameBag-sorted_by xs))

    pub sorted_by-in_order : (xs : List X) → IsSorted cmp xs → sorted_by cmp xs ≡ xs
    sorted_by-in_order xs h = sym (sorted_by-unique xs xs h (IsPermutation-refl xs))

-- what `is_sorted` answers
not_greater : (o : Ordering) → is_le o ≡ true → is_gt o ≡ false
not_greater Less e = refl
not_greater Equal e = refl
not_greater Greater e = absurd (true≢false (sym e))

greater : (o : Ordering) → is_le o ≡ false → is_gt o ≡ true
greater Less e = absurd (true≢false e)
greater Equal e = absurd (true≢false e)
greater Greater e = refl

module _ {X : Type 0} {cmp : X → X → Ordering} (order : IsTotalOrder cmp) where
  pub sorted_from_answer : (xs : List X) (r : Bool) → IsAllAdjacentAnswer (λ x y b. is_le (cmp x y) ≡ b) xs r → IsTrue r ↔ IsSorted cmp xs
  sorted_from_answer xs true h = (λ e k d low high. after_not order (get_or xs k d) (get_or xs (k + 1) d) (not_greater (cmp (get_or xs k d) (get_or xs (k + 1) d)) (h k d high)), λ up. refl)
  sorted_from_answer [] false h = absurd (omega (arith, h.1))
  sorted_from_answer (x ∷ xs) false h = (λ e. absurd (true≢false (sym e)), λ up. absurd (true≢false (sym (greater (cmp (get_or (x ∷ xs) h.0 x) (get_or (x ∷ xs) (h.0 + 1) x)) (h.2 x)) ∙ not_after order (get_or (x ∷ xs) h.0 x) (get_or (x ∷ xs) (h.0 + 1) x) (up h.0 x (omega arith) h.1))))

-- what is in order by its images has them in order
pub IsSorted-map : {X Y : Type 0} (cmp : X → X → Ordering) (f : Y → X) (ys : List Y) → IsSorted (λ a b. cmp (f a) (f b)) ys → IsSorted cmp (map f ys)
IsSorted-map cmp f [] h = λ k d low high. absurd (omega arith)
IsSorted-map cmp f (y ∷ ys) h = λ k d low high.
    let below : k + 1 < length (y ∷ ys) = omega (arith, length-map (y ∷ ys) f) in
    rw (get_or-map f (y ∷ ys) k y d (omega arith), get_or-map f (y ∷ ys) (k + 1) y d below) (h k y low below)
