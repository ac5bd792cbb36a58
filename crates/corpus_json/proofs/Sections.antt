-- The outputs of a line, at their indexes.
use Rattle.std.proofs.Common.{◌≡◌, ℕ, ◌<◌, Bor, List, length, map, get_or, All, sym, subst}
use Rattle.std.proofs.Math.ListN.{get_or-map}
use Rattle.std.proofs.lemmas.List.{length-map}
use Rattle.corpus_json.specs.NameIndexes.{NameIndex, name_index, name_indexes}
use Rattle.corpus_json.specs.declared.write.order.Named.{Named}
use Rattle.corpus_json.proofs.Objects.{indexes_within}

-- what holds of what f makes of each element
pub All-unmap : {X Y : Type 0} (P : Y → Type 0) (f : X → Y) (xs : List X) → All P (map f xs) → All (λ x. P (f x)) xs
All-unmap P f xs all = λ k d within. subst P (get_or-map f xs k d) (all k (f d) (subst (λ n. k < n) (sym (length-map xs f)) within))

pub all_within : (names : List (Bor (List ℕ))) (list : List Named) → map name_index list ≡ name_indexes (map (λ name. name.now) names) → All (λ named. named.index < length names) list
all_within names list is =
    let n = length names in
    let below : All (λ index. index < length (map (λ (name : Bor (List ℕ)). name.now) names)) (map (λ (p : NameIndex). p.1) (map name_index list)) =
    subst (λ (indexes : List NameIndex). All (λ index. index < length (map (λ (name : Bor (List ℕ)). name.now) names)) (map (λ (p : NameIndex). p.1) indexes)) (sym is) (indexes_within (map (λ name. name.now) names)) in
    let each = All-unmap (λ (p : NameIndex). p.1 < length (map (λ (name : Bor (List ℕ)). name.now) names)) name_index list (All-unmap (λ index. index < length (map (λ (name : Bor (List ℕ)). name.now) names)) (λ (p : NameIndex). p.1) (map name_index list) below) in
    λ k d within. subst (λ m. (get_or list k d).index < m) (length-map names (λ (name : Bor (List ℕ)). name.now)) (each k d within)
