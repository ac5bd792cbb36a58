-- What is found of a pattern or of a dictionary that may not be there.
use Rattle.std.proofs.Common.{◌≡◌, ◌∙◌, ◌<◌, ◌≤◌, ◌++◌, ◌==◌, ℕ, List, [], ◌∷◌, Option, Some, None, map, length, slice_get, get_or, refl, sym, ap, subst, false, ne_eqb, ◌⊎◌, inl, inr, arith}
use Rattle.std.proofs.lemmas.List.{append-nil}
use Rattle.std.proofs.lemmas.Option.{slice_get_cases, slice_get_past}
use Rattle.std.specs.List.{All, filter}
use Rattle.std.proofs.lemmas.List.Elements.{All-map, All-filter, All-append, All-nil, All-cons, All-head, All-tail}
use Rattle.span_token.specs.Documents.{Doc}
use Rattle.span_token.specs.Extents.{Extent, extent_of}
use Rattle.span_token.specs.Relations.{ContainsExtent}
use Rattle.span_token.specs.declared.span.Span.{Span}
use Rattle.aql_regex_extract.specs.Matches.{PutsRows}
use Rattle.dict_match.specs.declared.dict_use.DictUse.{DictUse}
use Rattle.dict_match.specs.DictMatches.{dict_matches}
use Rattle.dict_match.specs.Rows.{extents_for, AppendsMatches}
use Rattle.scalar_ops.specs.Extractions.{of_some}

-- nothing is put for a pattern that isn't there
pub puts_none : {A : Type 0} (f : A → List (List (Option Extent))) (xs : List A) (i : ℕ) (old : List (Option Extent)) → length xs ≤ i
    → PutsRows (of_some f (slice_get xs i)) old old 0
puts_none {A} f xs i old past =
    let P : Option A → Type 0 = λ o. PutsRows (of_some f o) old old 0 in subst P (sym (slice_get_past xs i past)) (refl, sym (append-nil old))

-- nothing is found for a dictionary that isn't there
none_for : (n i : ℕ) (ms : List (ℕ × Extent)) → n ≤ i → All (λ (m : ℕ × Extent). m.0 < n) ms → extents_for i ms ≡ []
none_for n i [] past all = refl
none_for n i (m ∷ ms) past all =
    let below = All-head (λ (m : ℕ × Extent). m.0 < n) m ms all in
    let other : (m.0 == i) ≡ false = ne_eqb m.0 i (omega (arith, below, past)) in
    rw other (none_for n i ms past (All-tail (λ (m : ℕ × Extent). m.0 < n) m ms all))

module _ (dicts : List DictUse) (d : Doc) (source : Extent) (new : List (ℕ × Extent)) (appends : AppendsMatches dicts d source [] new) where
  -- of what all dictionaries match, those of one are its matches
  pub for_dict : (i : ℕ) → extents_for i new ≡ of_some (λ dict. dict_matches dict d source) (slice_get dicts i)
  for_dict i = there (slice_get_cases dicts i).1
    where
      there : ((dict : DictUse) × (i < length dicts) × (slice_get dicts i ≡ Some dict) × (get_or dicts i dict ≡ dict)) ⊎ ((length dicts ≤ i) × (slice_get dicts i ≡ None))
          → extents_for i new ≡ of_some (λ dict. dict_matches dict d source) (slice_get dicts i)
      there (inl at) = ap (extents_for i) appends.after ∙ (appends.listed i at.0 at.2 ∙ ap (of_some (λ dict. dict_matches dict d source)) (sym at.2))
      there (inr past) =
          ap (extents_for i) appends.after ∙ (none_for (length dicts) i appends.added past.0 appends.below ∙ ap (of_some (λ dict. dict_matches dict d source)) (sym past.1))

  -- and lie in the source
  pub all_within : All (λ (m : ℕ × Extent). ContainsExtent source m.1) new
  all_within = let P : List (ℕ × Extent) → Type 0 = All (λ (m : ℕ × Extent). ContainsExtent source m.1) in subst P (sym appends.after) appends.within

from_extents : (P : Extent → Type 0) (spans : List Span) → All P (map extent_of spans) → All (λ s. P (extent_of s)) spans
from_extents P [] all = All-nil (λ s. P (extent_of s))
from_extents P (s ∷ spans) all =
    All-cons (λ s. P (extent_of s)) s spans (All-head P (extent_of s) (map extent_of spans) all) (from_extents P spans (All-tail P (extent_of s) (map extent_of spans) all))

-- spans that lie in a source, among those of all dictionaries
pub within_for : (source : Extent) (i : ℕ) (new : List (ℕ × Extent)) (before after : List Span) → All (λ (m : ℕ × Extent). ContainsExtent source m.1) new
    → map extent_of after ≡ map extent_of before ++ extents_for i new → All (λ s. ContainsExtent source (extent_of s)) before
    → All (λ s. ContainsExtent source (extent_of s)) after
within_for source i new before after all is old =
    let P : Extent → Type 0 = ContainsExtent source in
    from_extents P after (subst (All P) (sym is) (All-append P (map extent_of before) (extents_for i new) (All-map P extent_of before old)
    (All-map P (λ (m : ℕ × Extent). m.1) (filter (λ m. m.0 == i) new) (All-filter (λ m. m.0 == i) (λ (m : ℕ × Extent). P m.1) new all))))
