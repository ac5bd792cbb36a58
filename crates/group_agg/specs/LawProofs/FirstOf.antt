-- The first elements of a list in order, kept from among those seen.
use Rattle.std.proofs.Common.{◌≡◌, ℕ, zero, suc, ◌+◌, ◌<◌, ◌≤◌, Bool, true, false, cond, List, [], ◌∷◌, ◌++◌, length, refl, sym, ap, subst, ◌∙◌, arith, All, get_or, take, true≢false}
use Rattle.std.specs.Cmp.{IsTotalOrder, IsStrictWeakOrder}
use Rattle.std.specs.List.Sorted.{IsSorted}
use Rattle.std.specs.Ordering.{is_lt, ordering_reverse}
use Rattle.std.specs.declared.cmp.Ordering.{Ordering}
use Rattle.std.specs.declared.cmp.Ordering.TheVariants.{Less, Equal, Greater}
use Rattle.std.proofs.lemmas.List.{length-take, get_or-take}
use Rattle.std.proofs.lemmas.List.Sorted.{IsPermutation-to_front, sorted_far, ranks_by, length_permutation}
use Rattle.std.proofs.lemmas.List.Elements.{All-append, All-tail}
use Rattle.std.proofs.Math.ListN.{get_or-append}
use Rattle.aql_base.specs.Sorting.{put_in_order, sorted_by}
use Rattle.aql_base.specs.SortingLaws.{IsSorted-tail, IsSorted-head, IsSorted-cons, IsSorted-sorted_by, SameBag-sorted_by, sorted_by-SameBag, sorted_by-in_order}

pub take_within : {X : Type 0} (m n : ℕ) (xs : List X) → m ≤ n → take m (take n xs) ≡ take m xs
take_within zero n xs h = refl
take_within (suc m) zero xs h = absurd (omega arith)
take_within (suc m) (suc n) [] h = refl
take_within (suc m) (suc n) (x ∷ xs) h = ap (λ more. x ∷ more) (take_within m n xs (omega arith))

take_front : {X : Type 0} (n : ℕ) (y : X) (ys : List X) → take n (y ∷ ys) ≡ take n (y ∷ take n ys)
take_front zero y ys = refl
take_front (suc m) y ys = ap (λ more. y ∷ more) (sym (take_within m (suc m) ys (omega arith)))

module _ {X : Type 0} {cmp : X → X → Ordering} (order : IsTotalOrder cmp) where
  pub less : IsStrictWeakOrder (λ x y. is_lt (cmp x y))
  less = ranks_by order (λ (x : X). x)

  not_before_itself : (x : X) → is_lt (cmp x x) ≡ false
  not_before_itself x = by (is_lt (cmp x x)) refl
    where
      by : (b : Bool) → is_lt (cmp x x) ≡ b → is_lt (cmp x x) ≡ false
      by true e = less.one_way x x e
      by false e = e

  -- elements of two lists in order, of which no later one comes before an earlier one
  pub IsSorted-append : (xs ys : List X) → IsSorted cmp xs → IsSorted cmp ys → All (λ x. All (λ y. is_lt (cmp y x) ≡ false) ys) xs → IsSorted cmp (xs ++ ys)
  IsSorted-append [] ys h k all = k
  IsSorted-append (x ∷ xs) ys h k all =
      IsSorted-cons order x (xs ++ ys)
      (All-append (λ y. is_lt (cmp y x) ≡ false) xs ys (IsSorted-head order x xs h) (all zero x (omega arith)))
      (IsSorted-append xs ys (IsSorted-tail order x xs h) k (All-tail (λ x. All (λ y. is_lt (cmp y x) ≡ false) ys) x xs all))

  pub IsSorted-take : (n : ℕ) (xs : List X) → IsSorted cmp xs → IsSorted cmp (take n xs)
  IsSorted-take n xs h k d low high =
      let long = length-take n xs in
      let a : get_or (take n xs) k d ≡ get_or xs k d = get_or-take n xs k d (omega arith) in
      let b : get_or (take n xs) (k + 1) d ≡ get_or xs (k + 1) d = get_or-take n xs (k + 1) d (omega arith) in
      (λ i. is_lt (cmp (b i) (a i))) ∙ h k d low (omega arith)

  -- only the first n decide which are the first n with one more
  take_put : (n : ℕ) (x : X) (xs : List X) → take n (put_in_order cmp x xs) ≡ take n (put_in_order cmp x (take n xs))
  unfolding put_in_order
  take_put zero x xs = refl
  take_put (suc n) x [] = refl
  take_put (suc n) x (y ∷ ys) = by (is_lt (cmp y x)) (take_put n x ys)
    where
      by : (b : Bool) → take n (put_in_order cmp x ys) ≡ take n (put_in_order cmp x (take n ys))
          → take (suc n) (cond b (y ∷ put_in_order cmp x ys) (x ∷ y ∷ ys)) ≡ take (suc n) (cond b (y ∷ put_in_order cmp x (take n ys)) (x ∷ y ∷ take n ys))
      by true later = ap (λ more. y ∷ more) later
      by false later = ap (λ more. x ∷ more) (take_front n y ys)

  -- one more element moves none of the others to the front
  put_no_later : (x : X) (xs : List X) (i : ℕ) (d : X) → IsSorted cmp xs → i < length xs → is_lt (cmp (get_or xs i d) (get_or (put_in_order cmp x xs) i d)) ≡ false
  unfolding put_in_order
  put_no_later x [] i d h below = absurd (omega arith)
  put_no_later x (y ∷ ys) i d h below = by (is_lt (cmp y x)) refl i below (λ j low. put_no_later x ys j d (IsSorted-tail order y ys h) low)
    where
      by : (b : Bool) → is_lt (cmp y x) ≡ b → (i : ℕ) → i < length (y ∷ ys) → ((j : ℕ) → j < length ys → is_lt (cmp (get_or ys j d) (get_or (put_in_order cmp x ys) j d)) ≡ false)
          → is_lt (cmp (get_or (y ∷ ys) i d) (get_or (cond b (y ∷ put_in_order cmp x ys) (x ∷ y ∷ ys)) i d)) ≡ false
      by true e zero below later = not_before_itself y
      by true e (suc j) below later = later j (omega arith)
      by false e zero below later = e
      by false e (suc j) below later = sorted_far (λ a b. is_lt (cmp a b)) less (y ∷ ys) h j (suc j) d (omega arith) below

  module _ (exact : (x y : X) → cmp x y ≡ Equal → x ≡ y) where
    neither : (x y : X) (o : Ordering) → cmp x y ≡ o → is_lt (cmp x y) ≡ false → is_lt (cmp y x) ≡ false → x ≡ y
    neither x y Less e h k = absurd (true≢false (sym (ap is_lt e) ∙ h))
    neither x y Equal e h k = exact x y e
    neither x y Greater e h k = absurd (true≢false (sym (ap is_lt (order.antisymm y x ∙ ap ordering_reverse e)) ∙ k))

    put_in_front : (x y : X) (ys : List X) → is_lt (cmp y x) ≡ false → put_in_order cmp x (y ∷ ys) ≡ x ∷ y ∷ ys
    unfolding put_in_order
    put_in_front x y ys e = ap (λ b. cond b (y ∷ put_in_order cmp x ys) (x ∷ y ∷ ys)) e

    -- an element that doesn't come before index i changes none up to there
    put_past : (x : X) (xs : List X) (i : ℕ) (d : X) → IsSorted cmp xs → i < length xs → is_lt (cmp x (get_or xs i d)) ≡ false → take (suc i) (put_in_order cmp x xs) ≡ take (suc i) xs
    unfolding put_in_order
    put_past x [] i d h below past = absurd (omega arith)
    put_past x (y ∷ ys) i d h below past = by (is_lt (cmp y x)) refl i below past (λ j low p. put_past x ys j d (IsSorted-tail order y ys h) low p)
      where
        again : (zs : List X) (j : ℕ) → y ≡ x → IsSorted cmp (y ∷ zs) → suc j < length (y ∷ zs) → take (suc j) (put_in_order cmp x zs) ≡ take (suc j) zs → x ∷ take j zs ≡ take (suc j) zs
        again [] j e up low later = absurd (omega arith)
        again (z ∷ zs) j e up low later =
            let not_before : is_lt (cmp z x) ≡ false = subst (λ w. is_lt (cmp z w) ≡ false) e (IsSorted-head order y (z ∷ zs) up zero z (omega arith)) in
            sym (ap (take (suc j)) (put_in_front x z zs not_before)) ∙ later

        by : (b : Bool) → is_lt (cmp y x) ≡ b → (i : ℕ) → i < length (y ∷ ys) → is_lt (cmp x (get_or (y ∷ ys) i d)) ≡ false
            → ((j : ℕ) → j < length ys → is_lt (cmp x (get_or ys j d)) ≡ false → take (suc j) (put_in_order cmp x ys) ≡ take (suc j) ys)
            → take (suc i) (cond b (y ∷ put_in_order cmp x ys) (x ∷ y ∷ ys)) ≡ take (suc i) (y ∷ ys)
        by true e zero below past later = refl
        by true e (suc j) below past later = ap (λ more. y ∷ more) (later j (omega arith) past)
        by false e zero below past later = ap (λ w. w ∷ []) (neither x y (cmp x y) refl past e)
        by false e (suc j) below past later =
            let no_later : is_lt (cmp (get_or (y ∷ ys) (suc j) d) y) ≡ false = sorted_far (λ a b. is_lt (cmp a b)) less (y ∷ ys) h zero (suc j) d (omega arith) below in
            let same : x ≡ y = neither x y (cmp x y) refl (less.chain x (get_or (y ∷ ys) (suc j) d) y past no_later) e in
            let rest : x ∷ take j ys ≡ take (suc j) ys = again ys j (sym same) h below (later j (omega arith) past) in
            (λ i. same i ∷ (sym same i ∷ take j ys)) ∙ ap (λ more. y ∷ more) rest

    pub sorted_by-push : (xs : List X) (x : X) → sorted_by cmp (xs ++ x ∷ []) ≡ put_in_order cmp x (sorted_by cmp xs)
    unfolding sorted_by
    sorted_by-push xs x = sorted_by-SameBag order exact (xs ++ x ∷ []) (x ∷ xs) (IsPermutation-to_front xs x)

    abbrev firsts : ℕ → List X → List X
    firsts n xs = take n (sorted_by cmp xs)

    -- one more that is held
    pub firsts-push : (n : ℕ) (seen held : List X) (x : X) → firsts n held ≡ firsts n seen → firsts n (held ++ x ∷ []) ≡ firsts n (seen ++ x ∷ [])
    firsts-push n seen held x e =
        ap (take n) (sorted_by-push held x) ∙ take_put n x (sorted_by cmp held) ∙ ap (λ xs. take n (put_in_order cmp x xs)) e
        ∙ sym (take_put n x (sorted_by cmp seen)) ∙ sym (ap (take n) (sorted_by-push seen x))

    -- one more that is passed over
    pub firsts-pass : (i : ℕ) (seen held : List X) (x d : X) → firsts (suc i) held ≡ firsts (suc i) seen → i < length held → is_lt (cmp x (get_or (sorted_by cmp held) i d)) ≡ false → firsts (suc i) held ≡ firsts (suc i) (seen ++ x ∷ [])
    firsts-pass i seen held x d e below past =
        let long = length_permutation held (sorted_by cmp held) (SameBag-sorted_by order held) in
        sym (put_past x (sorted_by cmp held) i d (IsSorted-sorted_by order held) (omega arith) past)
        ∙ sym (ap (take (suc i)) (sorted_by-push held x)) ∙ firsts-push (suc i) seen held x e

    -- what is in order, and the first n alone, is its own first n
    pub sorted_by-firsts : (n : ℕ) (xs : List X) → sorted_by cmp (firsts n xs) ≡ firsts n xs
    sorted_by-firsts n xs = sorted_by-in_order order exact (firsts n xs) (IsSorted-take n (sorted_by cmp xs) (IsSorted-sorted_by order xs))

    pub firsts-firsts : (n : ℕ) (xs : List X) → firsts n (firsts n xs) ≡ firsts n xs
    firsts-firsts n xs = ap (take n) (sorted_by-firsts n xs) ∙ take_within n n (sorted_by cmp xs) (omega arith)

    -- the index of the worst of the first n gets no worse
    pub worst-push : (i : ℕ) (held : List X) (x d : X) → i < length held → is_lt (cmp (get_or held i d) (get_or (sorted_by cmp held) i d)) ≡ false
        → is_lt (cmp (get_or (held ++ x ∷ []) i d) (get_or (sorted_by cmp (held ++ x ∷ [])) i d)) ≡ false
    worst-push i held x d below h =
        let long = length_permutation held (sorted_by cmp held) (SameBag-sorted_by order held) in
        let nearer = put_no_later x (sorted_by cmp held) i d (IsSorted-sorted_by order held) (omega arith) in
        let chained = less.chain (get_or held i d) (get_or (sorted_by cmp held) i d) (get_or (put_in_order cmp x (sorted_by cmp held)) i d) h nearer in
        (λ j. is_lt (cmp (get_or-append held (x ∷ []) d i below j) (get_or (sorted_by-push held x j) i d))) ∙ chained
