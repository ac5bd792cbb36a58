-- A list that is cut at an index, and mapped.
use Rattle.std.proofs.Common.{◌≡◌, ◌∙◌, ℕ, ◌+◌, ◌<◌, List, [], ◌∷◌, ◌++◌, map, take, drop, length, get_or, refl, ap, sym, arith, zero, suc}
use Rattle.std.proofs.lemmas.List.{take_more, drop_more, map-append, take-append-drop, length-map, length-take-le}

module _ {X Y : Type 0} (f : X → Y) (xs : List X) (i : ℕ) (d : X) (within : i < length xs) where
  -- the part before the index and the element there
  pub map-take_more : map f (take (i + 1) xs) ≡ map f (take i xs) ++ f (get_or xs i d) ∷ []
  map-take_more = ap (map f) (take_more xs i d within) ∙ map-append f (take i xs) (get_or xs i d ∷ [])

  -- the whole list
  pub map_split : map f (take i xs) ++ f (get_or xs i d) ∷ map f (drop (i + 1) xs) ≡ map f xs
  map_split =
      sym (map-append f (take i xs) (get_or xs i d ∷ drop (i + 1) xs))
      ∙ ap (λ (rest : List X). map f (take i xs ++ rest)) (sym (drop_more xs i d within))
      ∙ ap (map f) (take-append-drop i xs)

pub length-map_take : {X Y : Type 0} (f : X → Y) (xs : List X) (i : ℕ) → i < length xs → length (map f (take i xs)) ≡ i
length-map_take f xs i within = length-map (take i xs) f ∙ length-take-le i xs (omega arith)

-- an element of a mapped list
pub get_or-map_within : {X Y : Type 0} (f : X → Y) (xs : List X) (i : ℕ) (d : X) (e : Y) → i < length xs → get_or (map f xs) i e ≡ f (get_or xs i d)
get_or-map_within f [] i d e within = absurd (omega arith)
get_or-map_within f (x ∷ xs) zero d e within = refl
get_or-map_within f (x ∷ xs) (suc i) d e within = get_or-map_within f xs i d e (omega arith)
