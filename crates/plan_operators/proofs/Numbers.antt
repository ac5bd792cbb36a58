-- Lists over numbers in a row.
use Rattle.std.proofs.Common.{◌≡◌, ◌∙◌, ◌+◌, ◌-◌, ◌<◌, ◌≤◌, ◌++◌, ℕ, zero, suc, Bool, true, false, cond, List, [], ◌∷◌, map, Option, Some, None, refl, sym, ap, ap₂, arith}
use Rattle.std.specs.List.{cons_option, filter, filter_map, flat_map, range_with_len}
use Rattle.std.proofs.lemmas.List.{map-append}
use Rattle.std.proofs.lemmas.List.Concat.{flat_map-append}

-- a function that gives the same of numbers from another one on
pub flat_map-shift : {Y : Type 0} (f g : ℕ → List Y) (a b n : ℕ) → ((i : ℕ) → i < n → f (a + i) ≡ g (b + i)) → flat_map f (range_with_len a n) ≡ flat_map g (range_with_len b n)
flat_map-shift f g a b zero same = refl
flat_map-shift f g a b (suc n) same =
    let x : a + 0 ≡ a = omega arith in
    let y : b + 0 ≡ b = omega arith in
    let here : f a ≡ g b = sym (ap f x) ∙ same 0 (omega arith) ∙ ap g y in
    ap₂ (λ ys zs. ys ++ zs) here (flat_map-shift f g (a + 1) (b + 1) n (λ i lt.
    let u : a + suc i ≡ a + 1 + i = omega arith in
    let v : b + suc i ≡ b + 1 + i = omega arith in
    sym (ap f u) ∙ same (suc i) (omega (arith, lt)) ∙ ap g v))

-- the same of those that pass a test
pub map-filter-shift : {Y : Type 0} (f g : ℕ → Y) (p q : ℕ → Bool) (a b n : ℕ) → ((i : ℕ) → i < n → f (a + i) ≡ g (b + i)) → ((i : ℕ) → i < n → p (a + i) ≡ q (b + i))
    → map f (filter p (range_with_len a n)) ≡ map g (filter q (range_with_len b n))
map-filter-shift {Y} f g p q a b zero same tests = refl
map-filter-shift {Y} f g p q a b (suc n) same tests =
    let x : a + 0 ≡ a = omega arith in
    let y : b + 0 ≡ b = omega arith in
    let here : f a ≡ g b = sym (ap f x) ∙ same 0 (omega arith) ∙ ap g y in
    let test : p a ≡ q b = sym (ap p x) ∙ tests 0 (omega arith) ∙ ap q y in
    let rest = map-filter-shift f g p q (a + 1) (b + 1) n (λ i lt.
    let u : a + suc i ≡ a + 1 + i = omega arith in
    let v : b + suc i ≡ b + 1 + i = omega arith in
    sym (ap f u) ∙ same (suc i) (omega (arith, lt)) ∙ ap g v) (λ i lt.
    let u : a + suc i ≡ a + 1 + i = omega arith in
    let v : b + suc i ≡ b + 1 + i = omega arith in
    sym (ap p u) ∙ tests (suc i) (omega (arith, lt)) ∙ ap q v) in
    one (p a) (q b) test (f a) (g b) here a b (filter p (range_with_len (a + 1) n)) (filter q (range_with_len (b + 1) n)) refl refl rest
  where
    one : (s t : Bool) → s ≡ t → (u v : Y) → u ≡ v → (a b : ℕ) (xs ys : List ℕ) → f a ≡ u → g b ≡ v → map f xs ≡ map g ys → map f (cond s (a ∷ xs) xs) ≡ map g (cond t (b ∷ ys) ys)
    one s t e u v h a b xs ys fa gb rest = ap (λ (z : Bool). map f (cond z (a ∷ xs) xs)) e ∙ two t
      where
        two : (t : Bool) → map f (cond t (a ∷ xs) xs) ≡ map g (cond t (b ∷ ys) ys)
        two true = ap₂ (λ (w : Y) ws. w ∷ ws) (fa ∙ h ∙ sym gb) rest
        two false = rest

-- numbers in two parts
pub range-split : (a m n : ℕ) → range_with_len a (m + n) ≡ range_with_len a m ++ range_with_len (a + m) n
range-split a zero n =
    let x : 0 + n ≡ n = omega arith in
    let y : a ≡ a + 0 = omega arith in
    ap (range_with_len a) x ∙ ap (λ k. range_with_len k n) y
range-split a (suc m) n =
    let x : suc m + n ≡ suc (m + n) = omega arith in
    let y : a + 1 + m ≡ a + suc m = omega arith in
    ap (range_with_len a) x ∙ ap (λ xs. a ∷ xs) (range-split (a + 1) m n ∙ ap (λ k. range_with_len (a + 1) m ++ range_with_len k n) y)

pub flat_map-split : {Y : Type 0} (f : ℕ → List Y) (a b c : ℕ) → a ≤ b → b ≤ c →
    flat_map f (range_with_len a (c - a)) ≡ flat_map f (range_with_len a (b - a)) ++ flat_map f (range_with_len b (c - b))
flat_map-split f a b c ab bc =
    let n : c - a ≡ (b - a) + (c - b) = omega (arith, ab, bc) in
    let m : a + (b - a) ≡ b = omega (arith, ab) in
    ap (λ k. flat_map f (range_with_len a k)) n
    ∙ ap (flat_map f) (range-split a (b - a) (c - b) ∙ ap (λ k. range_with_len a (b - a) ++ range_with_len k (c - b)) m)
    ∙ flat_map-append f (range_with_len a (b - a)) (range_with_len b (c - b))

-- what gives one or nothing, as lists
pub filter_map-flat : {X Y : Type 0} (f : X → Option Y) (xs : List X) → filter_map f xs ≡ flat_map (λ x. cons_option (f x) []) xs
filter_map-flat f [] = refl
filter_map-flat {X} {Y} f (x ∷ xs) = one (f x) (filter_map f xs) ∙ ap (λ ys. cons_option (f x) [] ++ ys) (filter_map-flat f xs)
  where
    one : (o : Option Y) (ys : List Y) → cons_option o ys ≡ cons_option o [] ++ ys
    one None ys = refl
    one (Some y) ys = refl

-- what gives nothing
pub flat_map-none : {X Y : Type 0} (f : X → List Y) → ((x : X) → f x ≡ []) → (xs : List X) → flat_map f xs ≡ []
flat_map-none f none [] = refl
flat_map-none f none (x ∷ xs) = ap₂ (λ ys zs. ys ++ zs) (none x) (flat_map-none f none xs)

-- a function of all that is given
pub map-flat_map : {X Y Z : Type 0} (h : Y → Z) (f : X → List Y) (xs : List X) → map h (flat_map f xs) ≡ flat_map (λ x. map h (f x)) xs
map-flat_map h f [] = refl
map-flat_map h f (x ∷ xs) = map-append h (f x) (flat_map f xs) ∙ ap (λ zs. map h (f x) ++ zs) (map-flat_map h f xs)

-- ---- what holds of each element

abbrev pub Each : {X : Type 0} → (X → Type 0) → List X → Type 0
Each P [] = Unit {0}
Each P (x ∷ xs) = P x × Each P xs

pub each-append : {X : Type 0} (P : X → Type 0) (xs ys : List X) → Each P xs → Each P ys → Each P (xs ++ ys)
each-append P [] ys all rest = rest
each-append P (x ∷ xs) ys all rest = (all.0, each-append P xs ys all.1 rest)

pub each-map : {X Y : Type 0} (P : X → Type 0) (Q : Y → Type 0) (f : X → Y) → ((x : X) → P x → Q (f x)) → (xs : List X) → Each P xs → Each Q (map f xs)
each-map P Q f step [] all = tt
each-map P Q f step (x ∷ xs) all = (step x all.0, each-map P Q f step xs all.1)

pub each-flat_map : {X Y : Type 0} (P : Y → Type 0) (f : X → List Y) → ((x : X) → Each P (f x)) → (xs : List X) → Each P (flat_map f xs)
each-flat_map P f step [] = tt
each-flat_map P f step (x ∷ xs) = each-append P (f x) (flat_map f xs) (step x) (each-flat_map P f step xs)

-- of numbers in a row that pass a test
pub each-passing : {Y : Type 0} (P : Y → Type 0) (f : ℕ → Y) (p : ℕ → Bool) (a n : ℕ) → ((k : ℕ) → a ≤ k → k < a + n → p k ≡ true → P (f k)) → Each P (map f (filter p (range_with_len a n)))
each-passing P f p a zero step = tt
each-passing {Y} P f p a (suc n) step =
    one (p a) (filter p (range_with_len (a + 1) n)) (λ is. step a (omega arith) (omega arith) is)
    (each-passing P f p (a + 1) n (λ k low high is. step k (omega (arith, low)) (omega (arith, high)) is))
  where
    one : (b : Bool) (ks : List ℕ) → (b ≡ true → P (f a)) → Each P (map f ks) → Each P (map f (cond b (a ∷ ks) ks))
    one true ks here rest = (here refl, rest)
    one false ks here rest = rest

-- ---- tests

-- where no element passes, none is left
pub filter-none : {X : Type 0} (p : X → Bool) (xs : List X) → Each (λ x. p x ≡ false) xs → filter p xs ≡ []
filter-none p [] all = refl
filter-none p (x ∷ xs) all = ap (λ b. cond b (x ∷ filter p xs) (filter p xs)) all.0 ∙ filter-none p xs all.1

pub none-passing : (p : ℕ → Bool) (a n : ℕ) → ((k : ℕ) → a ≤ k → k < a + n → p k ≡ false) → filter p (range_with_len a n) ≡ []
none-passing p a zero none = refl
none-passing p a (suc n) none =
    ap (λ b. cond b (a ∷ filter p (range_with_len (a + 1) n)) (filter p (range_with_len (a + 1) n))) (none a (omega arith) (omega arith))
    ∙ none-passing p (a + 1) n (λ k low high. none k (omega (arith, low)) (omega (arith, high)))
