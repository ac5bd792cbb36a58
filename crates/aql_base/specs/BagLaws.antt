-- Laws of bags: an equivalence that append, map, filter and flat map keep.
use Rattle.std.proofs.Common.{sym, ◌≡◌, ℕ, zero, suc, ◌<◌, Bool, true, false, cond, List, [], ◌∷◌, ◌++◌, map, length, get_or, set, filter, flat_map, refl, subst, append_assoc, arith}
use Rattle.std.specs.List as holes
use Rattle.std.proofs.lemmas.List.Sorted.{IsPermutation-refl, IsPermutation-sym, IsPermutation-trans, IsPermutation-append, IsPermutation-append_comm, IsPermutation-append_left, IsPermutation-append_right, IsPermutation-map, IsPermutation-keeps}
use Rattle.aql_base.specs.Bags.{SameBag}

module _ {X : Type 0} where
  pub SameBag-refl : (xs : List X) → SameBag xs xs
  SameBag-refl xs = IsPermutation-refl xs

  pub SameBag-sym : (xs ys : List X) → SameBag xs ys → SameBag ys xs
  SameBag-sym xs ys = IsPermutation-sym xs ys

  pub SameBag-trans : (xs ys zs : List X) → SameBag xs ys → SameBag ys zs → SameBag xs zs
  SameBag-trans xs ys zs = IsPermutation-trans xs ys zs

  pub SameBag-is : (xs ys : List X) → xs ≡ ys → SameBag xs ys
  SameBag-is xs ys e = subst (SameBag xs) e (SameBag-refl xs)

  pub SameBag-append : (xs ys us vs : List X) → SameBag xs ys → SameBag us vs → SameBag (xs ++ us) (ys ++ vs)
  SameBag-append xs ys us vs = IsPermutation-append xs ys us vs

  -- two neighbouring parts change places
  pub SameBag-exchange : (xs ys zs : List X) → SameBag (xs ++ (ys ++ zs)) (ys ++ (xs ++ zs))
  SameBag-exchange xs ys zs =
      let h : SameBag ((xs ++ ys) ++ zs) ((ys ++ xs) ++ zs) = IsPermutation-append_left zs (xs ++ ys) (ys ++ xs) (IsPermutation-append_comm xs ys) in
      rw (← append_assoc xs ys zs, ← append_assoc ys xs zs) h

pub SameBag-map : {X Y : Type 0} (f : X → Y) (xs ys : List X) → SameBag xs ys → SameBag (map f xs) (map f ys)
SameBag-map f xs ys = IsPermutation-map f xs ys

module _ {X Y : Type 0} (f : X → List Y) where
  -- x and an element of xs change places
  moved : (x : X) (xs : List X) (i : ℕ) (d : X) → i < length xs → SameBag (flat_map f (x ∷ xs)) (flat_map f (get_or xs i d ∷ set xs i x))
  moved x [] i d h = absurd (omega arith)
  moved x (y ∷ xs) zero d h = SameBag-exchange (f x) (f y) (flat_map f xs)
  moved x (y ∷ xs) (suc i) d h =
      let below : i < length xs = omega arith in
      let z = get_or xs i d in
      let first = SameBag-exchange (f x) (f y) (flat_map f xs) in
      let then' = IsPermutation-append_right (f y) (f x ++ flat_map f xs) (f z ++ flat_map f (set xs i x)) (moved x xs i d below) in
      let last = SameBag-exchange (f y) (f z) (flat_map f (set xs i x)) in
      SameBag-trans _ _ _ first (SameBag-trans _ _ _ then' last)

  swapped : (xs : List X) (i j : ℕ) (d e : X) → i < length xs → j < length xs → SameBag (flat_map f xs) (flat_map f (set (set xs i (get_or xs j d)) j (get_or xs i e)))
  swapped [] i j d e h k = absurd (omega arith)
  swapped (x ∷ xs) zero zero d e h k = SameBag-refl (flat_map f (x ∷ xs))
  swapped (x ∷ xs) zero (suc j) d e h k = moved x xs j d (omega arith)
  swapped (x ∷ xs) (suc i) zero d e h k = moved x xs i e (omega arith)
  swapped (x ∷ xs) (suc i) (suc j) d e h k = IsPermutation-append_right (f x) _ _ (swapped xs i j d e (omega arith) (omega arith))

  swap_keeps : (xs : List X) (i j : ℕ) → i < length xs → j < length xs → SameBag (flat_map f xs) (flat_map f (holes.swap xs i j))
  swap_keeps [] i j h k = absurd (omega arith)
  swap_keeps (x ∷ xs) i j h k = swapped (x ∷ xs) i j x x h k

  pub SameBag-flat_map : (xs ys : List X) → SameBag xs ys → SameBag (flat_map f xs) (flat_map f ys)
  SameBag-flat_map xs ys h =
      IsPermutation-keeps xs (λ zs. SameBag (flat_map f xs) (flat_map f zs)) (SameBag-refl (flat_map f xs))
      (λ zs i j a b p. SameBag-trans _ _ _ p (swap_keeps zs i j a b)) ys h

-- the same list, and bags element by element
pub SameBag-flat_map_each : {X Y : Type 0} (f g : X → List Y) → ((x : X) → SameBag (f x) (g x)) → (xs : List X) → SameBag (flat_map f xs) (flat_map g xs)
SameBag-flat_map_each f g each [] = SameBag-refl []
SameBag-flat_map_each f g each (x ∷ xs) = SameBag-append (f x) (g x) (flat_map f xs) (flat_map g xs) (each x) (SameBag-flat_map_each f g each xs)

module _ {X : Type 0} (p : X → Bool) where
  -- a filter is a flat map to at most one element
  kept : X → List X
  kept x = cond (p x) (x ∷ []) []

  kept_in_front : (b : Bool) (x : X) (xs : List X) → cond b (x ∷ []) [] ++ xs ≡ cond b (x ∷ xs) xs
  kept_in_front true x xs = refl
  kept_in_front false x xs = refl

  filter_is : (xs : List X) → flat_map kept xs ≡ filter p xs
  unfolding kept
  filter_is [] = refl
  filter_is (x ∷ xs) = rw (filter_is xs) (kept_in_front (p x) x (filter p xs))

  pub SameBag-filter : (xs ys : List X) → SameBag xs ys → SameBag (filter p xs) (filter p ys)
  SameBag-filter xs ys h = rw (← filter_is xs, ← filter_is ys) (SameBag-flat_map kept xs ys h)

module _ {Y Z : Type 0} where
  -- what each element gives to two lists may stand together
  pub SameBag-flat_map_append : (f g : Y → List Z) (ys : List Y) → SameBag (flat_map f ys ++ flat_map g ys) (flat_map (λ y. f y ++ g y) ys)
  SameBag-flat_map_append f g [] = SameBag-refl []
  SameBag-flat_map_append f g (y ∷ ys) =
      let fs = flat_map f ys in
      let gs = flat_map g ys in
      let first : SameBag ((f y ++ fs) ++ (g y ++ gs)) (f y ++ (fs ++ (g y ++ gs))) = SameBag-is _ _ (append_assoc (f y) fs (g y ++ gs)) in
      let exchanged : SameBag (f y ++ (fs ++ (g y ++ gs))) (f y ++ (g y ++ (fs ++ gs))) = IsPermutation-append_right (f y) (fs ++ (g y ++ gs)) (g y ++ (fs ++ gs)) (SameBag-exchange fs (g y) gs) in
      let together : SameBag (f y ++ (g y ++ (fs ++ gs))) ((f y ++ g y) ++ (fs ++ gs)) = SameBag-is _ _ (sym (append_assoc (f y) (g y) (fs ++ gs))) in
      let rest : SameBag ((f y ++ g y) ++ (fs ++ gs)) ((f y ++ g y) ++ flat_map (λ z. f z ++ g z) ys) = IsPermutation-append_right (f y ++ g y) (fs ++ gs) (flat_map (λ z. f z ++ g z) ys) (SameBag-flat_map_append f g ys) in
      SameBag-trans _ _ _ first (SameBag-trans _ _ _ exchanged (SameBag-trans _ _ _ together rest))

abbrev none_of : {Y : Type 0} (Z : Type 0) → Y → List Z
none_of Z y = []

nothing : {Y : Type 0} (Z : Type 0) (ys : List Y) → flat_map (none_of Z) ys ≡ []
nothing Z [] = refl
nothing Z (y ∷ ys) = nothing Z ys

-- the pairs of two lists are one bag, whichever list is gone through first
pub SameBag-pairs : {X Y Z : Type 0} (f : X → Y → List Z) (xs : List X) (ys : List Y) → SameBag (flat_map (λ x. flat_map (f x) ys) xs) (flat_map (λ y. flat_map (λ x. f x y) xs) ys)
SameBag-pairs {X} {Y} {Z} f [] ys = SameBag-is _ _ (sym (nothing Z ys))
SameBag-pairs f (x ∷ xs) ys =
    SameBag-trans _ _ _ (IsPermutation-append_right (flat_map (f x) ys) _ _ (SameBag-pairs f xs ys)) (SameBag-flat_map_append (f x) (λ y. flat_map (λ z. f z y) xs) ys)
