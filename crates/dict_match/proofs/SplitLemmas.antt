-- Matches are put into the row of their dictionary.
use Rattle.std.proofs.Common.{◌≡◌, ℕ, ◌+◌, ◌<◌, List, [], ◌∷◌, ◌++◌, inl, inr, map, length, take, get_or, replicate, All, sym, ap, ◌∙◌, arith}
use Rattle.std.proofs.lemmas.Bool.{cases_eq}
use Rattle.std.proofs.lemmas.List.{map-append, append_assoc, take_more, get_or-map, get_or-set_same, get_or-set_other, get_or-replicate, length-replicate, length-map}
use Rattle.std.proofs.Math.ListN.{set, length-set}
use Rattle.std.specs.declared.vec.Vec.{Vec}
use Rattle.span_token.specs.Extents.{Extent, extent_of}
use Rattle.span_token.specs.declared.span.Span.{Span}
use Rattle.dict_match.specs.declared.walk.DictMatch.{DictMatch}
use Rattle.dict_match.specs.Rows.{dict_and_extent, extents_for, extents_of_rows}
use Rattle.dict_match.proofs.RowLemmas.{extents-same, extents-other}

module _ {A : Type 0} where
  abbrev row_extents : Vec Span A → List Extent
  row_extents row = map extent_of row.items

  row-same : (rows : List (Vec Span A)) (k : ℕ) (row : Vec Span A) → k < length rows → get_or (extents_of_rows (set rows k row)) k [] ≡ row_extents row
  row-same rows k row lt =
      get_or-map row_extents (set rows k row) k row [] (omega (arith, length-set rows k row)) ∙ ap row_extents (get_or-set_same rows k row row lt)

  row-other : (rows : List (Vec Span A)) (k i : ℕ) (row : Vec Span A) → i < length rows → (i ≡ k → ⊥) → get_or (extents_of_rows (set rows k row)) i [] ≡ get_or (extents_of_rows rows) i []
  row-other rows k i row lt other =
      get_or-map row_extents (set rows k row) i row [] (omega (arith, length-set rows k row, lt)) ∙ ap row_extents (get_or-set_other rows k i row row other)
      ∙ sym (get_or-map row_extents rows i row [] lt)

  pub rows-step : (before : List Extent) (now next : List (Vec Span A)) (found : List DictMatch) (idx : ℕ) (one : DictMatch) (row pushed : Vec Span A) (i : ℕ) →
      idx < length found → one ≡ get_or found idx one → one.dict < length now → row ≡ get_or now one.dict row → pushed.items ≡ row.items ++ one.span ∷ [] → next ≡ set now one.dict pushed → i < length now →
      get_or (extents_of_rows now) i [] ≡ before ++ extents_for i (map dict_and_extent (take idx found)) →
      get_or (extents_of_rows next) i [] ≡ before ++ extents_for i (map dict_and_extent (take (idx + 1) found))
  rows-step before now next found idx one row pushed i lt is there row_is push next_is within was =
      let more : take (idx + 1) found ≡ take idx found ++ one ∷ [] = take_more found idx one lt ∙ ap (λ (m : DictMatch). take idx found ++ m ∷ []) (sym is) in
      ap (λ (rs : List (Vec Span A)). get_or (extents_of_rows rs) i []) next_is
      ∙ elim (cases_eq i one.dict) [
        | inl same ↦
            ap (λ (n : ℕ). get_or (extents_of_rows (set now one.dict pushed)) n []) same
            ∙ row-same now one.dict pushed there
            ∙ ap (map extent_of) push ∙ map-append extent_of row.items (one.span ∷ [])
            ∙ ap (λ (es : List Extent). es ++ extent_of one.span ∷ []) (ap row_extents row_is ∙ sym (get_or-map row_extents now one.dict row [] there) ∙ ap (λ (n : ℕ). get_or (extents_of_rows now) n []) (sym same) ∙ was)
            ∙ append_assoc before (extents_for i (map dict_and_extent (take idx found))) (extent_of one.span ∷ [])
            ∙ ap (λ (es : List Extent). before ++ es) (sym (extents-same i (take idx found) (take (idx + 1) found) one more (sym same)))
        | inr other ↦
            row-other now one.dict i pushed within other ∙ was
            ∙ ap (λ (es : List Extent). before ++ es) (sym (extents-other i (take idx found) (take (idx + 1) found) one more (λ h. other (sym h))))
      ]

  pub empty-row : (rows : List (Vec Span A)) (n i : ℕ) → extents_of_rows rows ≡ replicate n [] → i < n → get_or (extents_of_rows rows) i [] ≡ []
  empty-row rows n i is lt = ap (λ (l : List (List Extent)). get_or l i []) is ∙ get_or-replicate n i [] [] lt

  pub number-of_rows : (rows : List (Vec Span A)) (n : ℕ) → extents_of_rows rows ≡ replicate n [] → length rows ≡ n
  number-of_rows rows n is = sym (length-map rows row_extents) ∙ ap length is ∙ length-replicate n []

-- a match's dictionary is among so many
pub low-of : (found : List DictMatch) (n idx : ℕ) (one : DictMatch) → idx < length found → one ≡ get_or found idx one → All (λ (m : ℕ × Extent). m.0 < n) (map dict_and_extent found) → one.dict < n
low-of found n idx one lt is all =
    let here : get_or (map dict_and_extent found) idx (dict_and_extent one) ≡ dict_and_extent one = get_or-map dict_and_extent found idx one (dict_and_extent one) lt ∙ ap dict_and_extent (sym is) in
    omega (arith, all idx (dict_and_extent one) (omega (arith, lt, length-map found dict_and_extent)), ap (λ (m : ℕ × Extent). m.0) here)
