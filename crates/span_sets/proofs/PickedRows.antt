-- The rows whose marks are true, and those with one more mark.
use Rattle.std.proofs.Common.{◌≡◌, ℕ, ◌+◌, List, [], ◌∷◌, ◌++◌, Bool, true, false, cond, map, filter, refl, sym, ap, ap₂, ◌∙◌, arith}
use Rattle.std.specs.List.{range_with_len}
use Rattle.std.proofs.lemmas.List.{map_push, map-id}
use Rattle.std.proofs.lemmas.List.FromFn.{filter_of_map_range_with_len_more}
use Rattle.row_values.specs.Datums.{Datum}

-- one more number
more : (p : ℕ → Bool) (n : ℕ) → filter p (range_with_len 0 (n + 1)) ≡ filter p (range_with_len 0 n) ++ cond (p n) (n ∷ []) []
more p n =
    let whole : 0 + n ≡ n = omega arith in
    ap (λ (xs : List ℕ). filter p xs) (sym (map-id (range_with_len 0 (n + 1)))) ∙ filter_of_map_range_with_len_more p (λ (x : ℕ). x) 0 n n whole
    ∙ ap (λ (xs : List ℕ). filter p xs ++ cond (p n) (n ∷ []) []) (map-id (range_with_len 0 n))

no_more : (xs : List ℕ) → xs ++ [] ≡ xs
no_more [] = refl
no_more (x ∷ xs) = ap (λ ys. x ∷ ys) (no_more xs)

one_more : (f : ℕ → List Datum) (mark : Bool) (n : ℕ) (ns : List ℕ) → cond mark (map f ns ++ f n ∷ []) (map f ns) ≡ map f (ns ++ cond mark (n ∷ []) [])
one_more f true n ns = sym (map_push f ns n)
one_more f false n ns = ap (λ (ks : List ℕ). map f ks) (sym (no_more ns))

pub grown : (f : ℕ → List Datum) (p : ℕ → Bool) (n : ℕ) (out : List (List Datum)) (row : List Datum) (mark : Bool) → out ≡ map f (filter p (range_with_len 0 n)) → mark ≡ p n → row ≡ f n
    → cond mark (out ++ row ∷ []) out ≡ map f (filter p (range_with_len 0 (n + 1)))
grown f p n out row mark is e same =
    ap₂ (λ (rs : List (List Datum)) (r : List Datum). cond mark (rs ++ r ∷ []) rs) is same ∙ one_more f mark n (filter p (range_with_len 0 n))
    ∙ ap (λ (ks : List ℕ). map f ks) (ap (λ (b : Bool). filter p (range_with_len 0 n) ++ cond b (n ∷ []) []) e ∙ sym (more p n))
