-- Names that are repeated.
use Rattle.std.proofs.Common.{◌≡◌, ◌∙◌, ℕ, Bool, true, false, ◌||◌, if◌then◌else◌, List, [], ◌∷◌, ◌++◌, Some, None, refl, ap, sym}
use Rattle.std.specs.Str.{bytes_eq}
use Rattle.std.proofs.lemmas.Option.{none-some}
use Rattle.aql_syntax.specs.Trees.{Name}
use Rattle.clause_types.specs.Faults.{first, has_name}

no_more : (b : Bool) → (b || false) ≡ (if b then true else false)
no_more true = refl
no_more false = refl

either : (a b h : Bool) → (a || (if b then true else h)) ≡ (if b then true else (a || h))
either true true h = refl
either true false h = refl
either false true h = refl
either false false h = refl

-- one more name
pub has_name-append : (q : List ℕ) (names : List Name) (name : Name)
    → has_name q (names ++ name ∷ []) ≡ (if bytes_eq name.text q then true else has_name q names)
has_name-append q [] name = no_more (bytes_eq name.text q)
has_name-append q (n ∷ names) name =
    ap (λ rest. bytes_eq n.text q || rest) (has_name-append q names name)
    ∙ either (bytes_eq n.text q) (bytes_eq name.text q) (has_name q names)

-- a list without a first element is empty
pub none_first : {X : Type 0} (xs : List X) → first xs ≡ None → xs ≡ []
none_first [] h = refl
none_first (x ∷ xs) h = absurd (some_none x h)
  where
    some_none : {X : Type 0} (x : X) → Some x ≡ None → ⊥
    some_none x h = none-some x (sym h)
