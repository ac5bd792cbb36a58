-- A join needs those rows of the source alone that some outer row joins with.
use Rattle.std.proofs.Common.{◌≡◌, ◌∙◌, ◌+◌, ◌<◌, ◌≤◌, ◌++◌, ◌∷◌, ℕ, Bool, true, false, cond, List, [], Option, Some, None, length, take, get_or, refl, sym, ap, ap₂, subst, inl, inr}
use Rattle.std.specs.List.{All, filter, flat_map, list_any}
use Rattle.std.proofs.Math.Seq.{get_or-append_seam}
use Rattle.std.proofs.lemmas.Bool.{or_cases, or_parts}
use Rattle.std.proofs.lemmas.List.{append-nil, take_more}
use Rattle.std.proofs.lemmas.List.Concat.{flat_map-append}
use Rattle.std.proofs.lemmas.List.Elements.{All-head, All-tail, filter-append}
use Rattle.span_token.specs.Documents.{Doc, characters}
use Rattle.span_token.specs.Extents.{Extent}
use Rattle.span_token.specs.Tokens.{tokens_of}
use Rattle.row_values.specs.Datums.{Datum, null, span, span_of}
use Rattle.row_values.specs.Rows.{span_in}
use Rattle.span_joins.specs.Joins.{holds, joined_where}
use Rattle.span_joins.specs.JoinLaws.{row_pair, row_if, joined_where-rows}
use Rattle.algebra.specs.declared.node.JoinKind.{JoinKind}
use Rattle.algebra.specs.Operators.{does_join}
use Rattle.plan_operators.specs.declared.stretches.Stretch.{Stretch}
use Rattle.plan_operators.specs.Neighbourhoods.{AreAround, BeginIn, IsInRun, IsInSome, does_meet}

module _ (test : Extent → Extent → Bool) (lc rc : ℕ) where
  -- some left row joins with the row
  abbrev meets : List (List Datum) → List Datum → Bool
  meets left r = list_any (λ l. holds test (span_in lc l) (span_in rc r)) left

  pairs-none : (l r : List Datum) → holds test (span_in lc l) (span_in rc r) ≡ false → row_pair test lc rc l r ≡ []
  pairs-none l r fails = ap (λ b. row_if b (l ++ r)) fails

  -- a left row that is among those that are asked makes the same pairs with the rows that are met
  pairs-met : (keep : List Datum → Bool) (l : List Datum) → ((r : List Datum) → keep r ≡ false → holds test (span_in lc l) (span_in rc r) ≡ false) → (right : List (List Datum))
      → flat_map (row_pair test lc rc l) right ≡ flat_map (row_pair test lc rc l) (filter keep right)
  pairs-met keep l only [] = refl
  pairs-met keep l only (r ∷ right) = one (keep r) refl (filter keep right) (pairs-met keep l only right)
    where
      one : (b : Bool) → keep r ≡ b → (rest : List (List Datum)) → flat_map (row_pair test lc rc l) right ≡ flat_map (row_pair test lc rc l) rest
          → row_pair test lc rc l r ++ flat_map (row_pair test lc rc l) right ≡ flat_map (row_pair test lc rc l) (cond b (r ∷ rest) rest)
      one true is rest same = ap (λ rows. row_pair test lc rc l r ++ rows) same
      one false is rest same = ap₂ (λ (xs ys : List (List Datum)). xs ++ ys) (pairs-none l r (only r is)) same

  each-met : (keep : List Datum → Bool) (left right : List (List Datum)) → ((r : List Datum) → keep r ≡ false → meets left r ≡ false)
      → flat_map (λ l. flat_map (row_pair test lc rc l) right) left ≡ flat_map (λ l. flat_map (row_pair test lc rc l) (filter keep right)) left
  each-met keep [] right only = refl
  each-met keep (l ∷ left) right only =
      ap₂ (λ (xs ys : List (List Datum)). xs ++ ys)
      (pairs-met keep l (λ r is. (or_parts (holds test (span_in lc l) (span_in rc r)) (meets left r) (only r is)).0) right)
      (each-met keep left right (λ r is. (or_parts (holds test (span_in lc l) (span_in rc r)) (meets left r) (only r is)).1))

  -- so a join needs no other rows
  pub joined-met : (left right : List (List Datum)) → joined_where test left lc right rc ≡ joined_where test left lc (filter (meets left) right) rc
  joined-met left right =
      joined_where-rows test lc rc left right ∙ each-met (meets left) left right (λ r is. is) ∙ sym (joined_where-rows test lc rc left (filter (meets left) right))

  -- and lists with the same of these have the same join
  pub joined-same : (left right others : List (List Datum)) → filter (meets left) right ≡ filter (meets left) others → joined_where test left lc right rc ≡ joined_where test left lc others rc
  joined-same left right others same =
      joined-met left right ∙ ap (λ rows. joined_where test left lc rows rc) same ∙ sym (joined-met left others)

-- ---- outer rows

module _ (doc : Doc) (kind : JoinKind) (lc reach : ℕ) (stretches : List Stretch) where
  span-found : (row : List Datum) (e : Extent) → length row ≡ 1 → span_in 1 (row ++ span e ∷ []) ≡ Some e
  span-found row e long =
      ap span_of (subst (λ (n : ℕ). get_or (row ++ span e ∷ []) n null ≡ span e) long (get_or-append_seam row (span e) [] null))

  one-meets : (e : Extent) (first past : ℕ) → IsInRun (tokens_of (characters doc)) first past e → past ≤ first + reach → (l : List Datum) → AreAround doc kind lc reach stretches l
      → (o : Option Extent) → span_in lc l ≡ o → holds (does_join doc kind) o (Some e) ≡ true → IsInSome stretches first
  one-meets e first past run short l around None at joins = absurd cc
  one-meets e first past run short l around (Some a) at joins = around a e first past at run short joins

  some-meets : (e : Extent) (first past : ℕ) → IsInRun (tokens_of (characters doc)) first past e → past ≤ first + reach → (outer : List (List Datum)) → All (AreAround doc kind lc reach stretches) outer
      → list_any (λ l. holds (does_join doc kind) (span_in lc l) (Some e)) outer ≡ true → IsInSome stretches first
  some-meets e first past run short [] around joins = absurd cc
  some-meets e first past run short (l ∷ outer) around joins =
      elim (or_cases (holds (does_join doc kind) (span_in lc l) (Some e)) (list_any (λ m. holds (does_join doc kind) (span_in lc m) (Some e)) outer) joins) [
        | inl here ↦ one-meets e first past run short l (All-head (AreAround doc kind lc reach stretches) l outer around) (span_in lc l) refl here
        | inr later ↦ some-meets e first past run short outer (All-tail (AreAround doc kind lc reach stretches) l outer around) later
      ]

  -- a match that some outer row joins with begins in one of the stretches that are around them
  pub begin-in : (outer : List (List Datum)) (row : List Datum) → All (AreAround doc kind lc reach stretches) outer → length row ≡ 1 → BeginIn doc reach stretches row (does_meet doc kind outer lc)
  begin-in outer row around long e first past run short meets =
      some-meets e first past run short outer around
      (subst (λ (o : Option Extent). list_any (λ l. holds (does_join doc kind) (span_in lc l) o) outer ≡ true) (span-found row e long) meets)

-- one row of the source after another
pub followed-next : (keep : List Datum → Bool) (f : List Datum → List (List Datum)) (rows : List (List Datum)) (row : List Datum) (i : ℕ) (mid new : List (List Datum)) → i < length rows → row ≡ get_or rows i row
    → filter keep mid ≡ filter keep (flat_map f (take i rows)) → filter keep new ≡ filter keep (mid ++ f row) → filter keep new ≡ filter keep (flat_map f (take (i + 1) rows))
followed-next keep f rows row i mid new lt at before put =
    put ∙ filter-append keep mid (f row) ∙ ap (λ ks. ks ++ filter keep (f row)) before ∙ sym (filter-append keep (flat_map f (take i rows)) (f row))
    ∙ ap (filter keep) (ap (λ ks. flat_map f (take i rows) ++ ks) (sym (append-nil (f row))) ∙ sym (flat_map-append f (take i rows) (row ∷ []))
    ∙ ap (λ (r : List Datum). flat_map f (take i rows ++ r ∷ [])) at ∙ ap (flat_map f) (sym (take_more rows i row lt)))
