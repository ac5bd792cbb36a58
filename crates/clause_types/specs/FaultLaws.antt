-- The first fault of lists that follow one another.
use Rattle.std.proofs.Common.{◌≡◌, ◌∙◌, ◌+◌, ◌<◌, ℕ, List, [], ◌∷◌, ◌++◌, map, drop, get_or, length, ap, sym, subst, Result, IfErr}
use Rattle.std.specs.List.{flat_map}
use Rattle.std.specs.Result.{IsErrAnd}
use Rattle.std.proofs.lemmas.List.{at_drop_more}
use Rattle.std.proofs.lemmas.Option.{none-some}
use Rattle.std.proofs.lemmas.Result.{err_from_is_err_and}
use Rattle.span_token.specs.declared.refusal.Failure.{Failure}
use Rattle.span_token.specs.declared.refusal.Failure.TheVariants.{OutOfMemory, Fault}
use Rattle.clause_types.specs.declared.fault.Breach.{Breach}
use Rattle.clause_types.specs.Refusals.{IsFirst}

pub first_here : (a b : List Breach) (failure : Failure Breach) → IsFirst a failure → IsFirst (a ++ b) failure
first_here a b OutOfMemory h = record { is = tt }
first_here [] b (Fault fault) h = absurd (none-some fault h.is)
first_here (x ∷ a) b (Fault fault) h = record { is = h.is }

pub first_later : (a b : List Breach) (failure : Failure Breach) → a ≡ [] → IsFirst b failure → IsFirst (a ++ b) failure
first_later a b failure none h = subst (λ (xs : List Breach). IsFirst (xs ++ b) failure) (sym none) h

-- the exit of a `?`
pub raised : {A : Type 0} (r : Result A (Failure Breach)) (faults : List Breach) (failure : Failure Breach)
    → IsErrAnd r (λ e. e ≡ failure) → IsFirst faults failure → IfErr r (IsFirst faults)
raised r faults failure is h =
    let p = err_from_is_err_and r is in rw (p.1, p.2) h

-- two lists without a fault
pub all_faultless : (a b : List Breach) → a ≡ [] → b ≡ [] → a ++ b ≡ []
all_faultless a b none no_more = subst (λ (xs : List Breach). xs ++ b ≡ []) (sym none) no_more

-- the first fault of the parts of a list, at the index that a loop has come to
pub first_in_loop : {X Y : Type 0} (faults : Y → List Breach) (f : X → Y) (xs : List X) (i : ℕ) (x : X) → x ≡ get_or xs i x → i < length xs
    → flat_map faults (map f (drop i xs)) ≡ flat_map faults (map f xs) → (failure : Failure Breach) → IsFirst (faults (f x)) failure
    → IsFirst (flat_map faults (map f xs)) failure
first_in_loop {X} faults f xs i x is within so_far failure h =
    let rest = flat_map faults (map f (drop (i + 1) xs)) in
    let here : flat_map faults (map f (drop i xs)) ≡ faults (f x) ++ rest =
    at_drop_more (λ (ys : List X). flat_map faults (map f ys)) xs i x within ∙ ap (λ (y : X). faults (f y) ++ rest) (sym is) in
    subst (λ (fs : List Breach). IsFirst fs failure) (sym here ∙ so_far) (first_here (faults (f x)) rest failure h)

-- the same for whatever goes through a list from the left
pub first_at : {X : Type 0} (faults : List X → List Breach) (here : X → List Breach) → ((y : X) (ys : List X) → faults (y ∷ ys) ≡ here y ++ faults ys)
    → (xs : List X) (i : ℕ) (x : X) → x ≡ get_or xs i x → i < length xs → faults (drop i xs) ≡ faults xs → (failure : Failure Breach) → IsFirst (here x) failure
    → IsFirst (faults xs) failure
first_at {X} faults here step xs i x is within so_far failure h =
    let rest = faults (drop (i + 1) xs) in
    let split : faults (drop i xs) ≡ here x ++ rest =
    at_drop_more faults xs i x within ∙ (step (get_or xs i x) (drop (i + 1) xs) ∙ ap (λ (y : X). here y ++ rest) (sym is)) in
    subst (λ (fs : List Breach). IsFirst fs failure) (sym split ∙ so_far) (first_here (here x) rest failure h)
