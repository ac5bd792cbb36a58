-- Laws for loops over rows: what holds of each row, and what each row gives.
use Rattle.std.proofs.Common.{◌≡◌, ◌∙◌, ◌<◌, ◌+◌, ◌++◌, ◌∷◌, [], ℕ, List, length, get_or, take, sym, ap, subst}
use Rattle.std.specs.List.{All, flat_map}
use Rattle.std.proofs.lemmas.List.{take_more, flat_map_more}

-- what holds of each of some things holds of the one at an index
pub holds-at : {X : Type 0} (P : X → Type 0) (all items : List X) (i : ℕ) (x : X) → items ≡ all → i < length items → x ≡ get_or items i x → All P all → P x
holds-at P all items i x same below is holds = subst P (sym is) (subst (All P) (sym same) holds i x below)

-- what one more gives stands behind what those before it gave
pub given-next : {X Y : Type 0} (f : X → List Y) (xs : List X) (i : ℕ) (x : X) (before after : List Y) → i < length xs → x ≡ get_or xs i x → before ≡ flat_map f (take i xs)
    → after ≡ before ++ f x → after ≡ flat_map f (take (i + 1) xs)
given-next {X} {Y} f xs i x before after below is so_far put =
    put ∙ (ap (λ (ys : List Y). ys ++ f x) so_far ∙ (flat_map_more f [] (take i xs) x
    ∙ ap (flat_map f) (sym (take_more xs i x below ∙ ap (λ (y : X). take i xs ++ y ∷ []) (sym is)))))
