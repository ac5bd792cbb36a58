-- Rows that are moved one after another.
use Rattle.std.proofs.Common.{◌≡◌, ◌∙◌, ℕ, ◌++◌, Bool, List, [], ◌∷◌, length, sym, ap, subst, append_assoc}
use Rattle.std.specs.List.{All, filter}
use Rattle.std.proofs.lemmas.List.Elements.{All-head, All-tail, filter-append}
use Rattle.row_values.specs.Datums.{Datum}

module _ (rest after : List (List Datum)) (row : List Datum) (next : rest ≡ row ∷ after) where
  -- the rows that are left have the width that all had
  pub left_wide : (width wide : ℕ) → wide ≡ width → All (λ row. length row ≡ width) rest → All (λ row. length row ≡ wide) after
  left_wide width wide same all =
      subst (λ (w : ℕ). All (λ row. length row ≡ w) after) (sym same) (All-tail (λ row. length row ≡ width) row after (subst (All (λ row. length row ≡ width)) next all))

  -- what holds of all that were left holds of those that are left
  pub left_hold : (P : List Datum → Type 0) → All P rest → All P after
  left_hold P all = All-tail P row after (subst (All P) next all)

  -- and of the first one
  pub first_holds : (P : List Datum → Type 0) → All P rest → P row
  first_holds P all = All-head P row after (subst (All P) next all)

  -- one row more was moved
  pub moved_more : (before put all : List (List Datum)) → put ≡ before ++ row ∷ [] → before ++ rest ≡ all → put ++ after ≡ all
  moved_more before put all is so_far =
      ap (λ (rows : List (List Datum)). rows ++ after) is ∙ (append_assoc before (row ∷ []) after ∙ (ap (λ (rows : List (List Datum)). before ++ rows) (sym next) ∙ so_far))

  -- or, where it passes a test
  pub passed_more : (p : List Datum → Bool) (before put all : List (List Datum)) → put ≡ before ++ filter p (row ∷ []) → before ++ filter p rest ≡ all → put ++ filter p after ≡ all
  passed_more p before put all is so_far =
      ap (λ (rows : List (List Datum)). rows ++ filter p after) is
      ∙ (append_assoc before (filter p (row ∷ [])) (filter p after)
      ∙ (ap (λ (rows : List (List Datum)). before ++ rows) (sym (filter-append p (row ∷ []) after) ∙ ap (filter p) (sym next)) ∙ so_far))
