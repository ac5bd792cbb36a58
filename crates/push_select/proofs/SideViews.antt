-- Conditions by the side of a joined row that they read.
use Rattle.std.proofs.Common.{◌≡◌, ◌∙◌, ℕ, ◌+◌, ◌-◌, Bool, true, false, cond, not, List, [], ◌∷◌, map, refl, ap}
use Rattle.std.specs.List.{All, filter}
use Rattle.std.proofs.lemmas.List.Elements.{All-nil, All-cons, All-head, All-tail, All-filter, All-map}
use Rattle.scalar_ops.specs.Expressions.{Term, ReadsBelow, does_read_below, does_read_from, renamed}
use Rattle.scalar_ops.specs.ReadingLaws.{does_read_below-is, does_read_from-is, reads-shifted}
use Rattle.scalar_ops.specs.SideLaws.{left_conditions, later_conditions, right_conditions, joint_conditions}

-- the terms of what passes a test of terms
pub terms_sieved : {X Y : Type 0} (f : X → Y) (p : Y → Bool) (xs : List X) → map f (filter (λ x. p (f x)) xs) ≡ filter p (map f xs)
terms_sieved f p [] = refl
terms_sieved {X} {Y} f p (x ∷ xs) = by (p (f x)) (filter (λ x. p (f x)) xs) ∙ ap (λ (rest : List Y). cond (p (f x)) (f x ∷ rest) rest) (terms_sieved f p xs)
  where
    by : (b : Bool) (ys : List X) → map f (cond b (x ∷ ys) ys) ≡ cond b (f x ∷ map f ys) (map f ys)
    by true ys = refl
    by false ys = refl

-- what stands on the left side reads it alone
pub left-read : (width : ℕ) (cs : List Term) → All (ReadsBelow width) (left_conditions width cs)
left-read width [] = All-nil (ReadsBelow width)
left-read width (c ∷ cs) = by (does_read_below width c) refl (left-read width cs)
  where
    by : (b : Bool) → does_read_below width c ≡ b → All (ReadsBelow width) (left_conditions width cs) → All (ReadsBelow width) (left_conditions width (c ∷ cs))
    by true e rest = rw e (All-cons (ReadsBelow width) c (left_conditions width cs) ((does_read_below-is width c).0 e) rest)
    by false e rest = rw e rest

pub shifted_read : (width other : ℕ) (cs : List Term) → All (ReadsBelow (width + other)) cs → All (λ c. ReadsBelow other (renamed (λ n. n - width) c)) (filter (does_read_from width) cs)
shifted_read width other [] reads = All-nil (λ c. ReadsBelow other (renamed (λ n. n - width) c))
shifted_read width other (c ∷ cs) reads =
    by (does_read_from width c) refl (shifted_read width other cs (All-tail (ReadsBelow (width + other)) c cs reads))
  where
    by : (b : Bool) → does_read_from width c ≡ b → All (λ c. ReadsBelow other (renamed (λ n. n - width) c)) (filter (does_read_from width) cs)
        → All (λ c. ReadsBelow other (renamed (λ n. n - width) c)) (filter (does_read_from width) (c ∷ cs))
    by true e rest =
        rw e (All-cons (λ c. ReadsBelow other (renamed (λ n. n - width) c)) c (filter (does_read_from width) cs)
        (reads-shifted width other c ((does_read_from-is width c).0 e) (All-head (ReadsBelow (width + other)) c cs reads)) rest)
    by false e rest = rw e rest

-- what stands on the right side reads it alone, by the numbers that columns have there
pub right-read : (width other : ℕ) (cs : List Term) → All (ReadsBelow (width + other)) cs → All (ReadsBelow other) (right_conditions width cs)
right-read width other cs reads =
    All-map (ReadsBelow other) (renamed (λ n. n - width)) (filter (does_read_from width) (later_conditions width cs))
    (shifted_read width other (later_conditions width cs) (All-filter (λ c. not (does_read_below width c)) (ReadsBelow (width + other)) cs reads))

-- the others read what all read
pub joint-read : (width n : ℕ) (cs : List Term) → All (ReadsBelow n) cs → All (ReadsBelow n) (joint_conditions width cs)
joint-read width n cs reads =
    All-filter (λ c. not (does_read_from width c)) (ReadsBelow n) (later_conditions width cs) (All-filter (λ c. not (does_read_below width c)) (ReadsBelow n) cs reads)
