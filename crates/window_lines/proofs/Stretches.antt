-- Stretches of lists, as `slice_chunk` cuts them.
use Rattle.std.proofs.Common.{◌≡◌, ◌++◌, ◌+◌, ◌*◌, ◌≤◌, ℕ, zero, suc, List, [], ◌∷◌, map, length, take, drop, refl, sym, ap, ap₂, ◌∙◌, arith}
use Rattle.std.specs.Fork.{slice_chunk}
use Rattle.std.specs.List.{flat_map, AllZip}
use Rattle.std.proofs.Math.Seq.{take-add}
use Rattle.std.proofs.lemmas.List.{map-append, take_all, length_push, append_assoc}
use Rattle.std.proofs.lemmas.Grind.{flat_map-append}

-- the first stretches, one more
pub more : {A : Type 0} (xs : List A) (size n : ℕ) → take ((n + 1) * size) xs ≡ take (n * size) xs ++ slice_chunk xs size n
more xs size n = let on : (n + 1) * size ≡ n * size + size = omega arith in ap (λ k. take k xs) on ∙ take-add (n * size) size xs

pub mapped-more : {A B : Type 0} (f : A → B) (xs : List A) (size n : ℕ) → map f (take ((n + 1) * size) xs) ≡ map f (take (n * size) xs) ++ map f (slice_chunk xs size n)
mapped-more f xs size n = ap (map f) (more xs size n) ∙ map-append f (take (n * size) xs) (slice_chunk xs size n)

pub joined-more : {A B : Type 0} (f : A → List B) (xs : List A) (size n : ℕ)
    → flat_map f (take ((n + 1) * size) xs) ≡ flat_map f (take (n * size) xs) ++ flat_map f (slice_chunk xs size n)
joined-more f xs size n = ap (flat_map f) (more xs size n) ∙ flat_map-append f (take (n * size) xs) (slice_chunk xs size n)

-- R holds of two lists element by element: of their stretches too
pub zip-take : {A B : Type 0} (R : A → B → Type 0) (n : ℕ) (xs : List A) (ys : List B) → AllZip R xs ys → AllZip R (take n xs) (take n ys)
zip-take R zero xs ys are = tt
zip-take R (suc n) [] [] are = tt
zip-take R (suc n) [] (y ∷ ys) are = absurd are
zip-take R (suc n) (x ∷ xs) [] are = absurd are
zip-take R (suc n) (x ∷ xs) (y ∷ ys) are = (are.0, zip-take R n xs ys are.1)

pub zip-drop : {A B : Type 0} (R : A → B → Type 0) (n : ℕ) (xs : List A) (ys : List B) → AllZip R xs ys → AllZip R (drop n xs) (drop n ys)
zip-drop R zero xs ys are = are
zip-drop R (suc n) [] [] are = tt
zip-drop R (suc n) [] (y ∷ ys) are = absurd are
zip-drop R (suc n) (x ∷ xs) [] are = absurd are
zip-drop R (suc n) (x ∷ xs) (y ∷ ys) are = zip-drop R n xs ys are.1

pub zip-stretch : {A B : Type 0} (R : A → B → Type 0) (size n : ℕ) (xs : List A) (ys : List B) → AllZip R xs ys → AllZip R (slice_chunk xs size n) (slice_chunk ys size n)
zip-stretch R size n xs ys are = zip-take R size (drop (n * size) xs) (drop (n * size) ys) (zip-drop R (n * size) xs ys are)

-- the stretch of a mapped list is the mapped stretch
pub map-take : {A B : Type 0} (f : A → B) (n : ℕ) (xs : List A) → take n (map f xs) ≡ map f (take n xs)
map-take f zero xs = refl
map-take f (suc n) [] = refl
map-take f (suc n) (x ∷ xs) = ap (λ ys. f x ∷ ys) (map-take f n xs)

pub map-drop : {A B : Type 0} (f : A → B) (n : ℕ) (xs : List A) → drop n (map f xs) ≡ map f (drop n xs)
map-drop f zero xs = refl
map-drop f (suc n) [] = refl
map-drop f (suc n) (x ∷ xs) = map-drop f n xs

pub map-stretch : {A B : Type 0} (f : A → B) (size n : ℕ) (xs : List A) → slice_chunk (map f xs) size n ≡ map f (slice_chunk xs size n)
map-stretch f size n xs = ap (take size) (map-drop f (n * size) xs) ∙ map-take f size (drop (n * size) xs)

-- a list of stretches, gone through one after another: one more is there
pub mapped-turn : {A B P : Type 0} (f : A → B) (xs : List A) (size : ℕ) (ys : List P) (y : P) (so_far next after : List B)
    → so_far ≡ map f (take (length ys * size) xs) → next ≡ map f (slice_chunk xs size (length ys)) → after ≡ so_far ++ next
    → after ≡ map f (take (length (ys ++ y ∷ []) * size) xs)
mapped-turn f xs size ys y so_far next after before is on =
    on ∙ ap₂ (λ b n. b ++ n) before is ∙ sym (mapped-more f xs size (length ys)) ∙ ap (λ k. map f (take (k * size) xs)) (sym (length_push ys y))

pub joined-turn : {A B P : Type 0} (f : A → List B) (xs : List A) (size : ℕ) (ys : List P) (y : P) (first so_far next after : List B)
    → so_far ≡ first ++ flat_map f (take (length ys * size) xs) → next ≡ flat_map f (slice_chunk xs size (length ys)) → after ≡ so_far ++ next
    → after ≡ first ++ flat_map f (take (length (ys ++ y ∷ []) * size) xs)
joined-turn f xs size ys y first so_far next after before is on =
    on ∙ ap₂ (λ b n. b ++ n) before is ∙ append_assoc first (flat_map f (take (length ys * size) xs)) (flat_map f (slice_chunk xs size (length ys)))
    ∙ ap (λ l. first ++ l) (sym (joined-more f xs size (length ys)) ∙ ap (λ k. flat_map f (take (k * size) xs)) (sym (length_push ys y)))

-- all stretches are the list
pub all_of : {A : Type 0} (xs : List A) (size n : ℕ) → length xs ≤ n * size → take (n * size) xs ≡ xs
all_of xs size n enough = take_all (n * size) xs enough

-- the same of a mapped list, by the number of the stretch
pub mapped-joined : {A B C : Type 0} (g : A → B) (f : B → List C) (xs : List A) (size n : ℕ) (first so_far next after : List C)
    → so_far ≡ first ++ flat_map f (map g (take (n * size) xs)) → next ≡ flat_map f (map g (slice_chunk xs size n)) → after ≡ so_far ++ next
    → after ≡ first ++ flat_map f (map g (take ((n + 1) * size) xs))
mapped-joined g f xs size n first so_far next after before is on =
    on ∙ ap₂ (λ b m. b ++ m) before is ∙ append_assoc first (flat_map f (map g (take (n * size) xs))) (flat_map f (map g (slice_chunk xs size n)))
    ∙ ap (λ l. first ++ l) (sym (ap (flat_map f) (mapped-more g xs size n) ∙ flat_map-append f (map g (take (n * size) xs)) (map g (slice_chunk xs size n))))
