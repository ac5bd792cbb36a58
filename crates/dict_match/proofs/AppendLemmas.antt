-- Matches that are put behind others, as a whole.
use Rattle.std.proofs.Common.{◌≡◌, ℕ, ◌<◌, List, [], ◌++◌, map, length, get_or, slice_get, All, Some, Result, Ok, Err, OnOk, true, sym, ap, subst, ◌∙◌, arith}
use Rattle.std.proofs.lemmas.List.{append_cancel_left, ext_get_or, get_or-map, length-map, map-append}
use Rattle.std.proofs.lemmas.List.Elements.{All-map}
use Rattle.std.proofs.lemmas.Option.{slice_get-get_or}
use Rattle.span_token.specs.Documents.{Doc}
use Rattle.span_token.specs.Extents.{Extent}
use Rattle.dict_match.specs.declared.dict_use.DictUse.{DictUse}
use Rattle.dict_match.specs.declared.walk.DictMatch.{DictMatch}
use Rattle.dict_match.specs.Dictionaries.{AreMatches}
use Rattle.dict_match.specs.DictMatches.{dict_matches}
use Rattle.dict_match.specs.Rows.{dict_and_extent, extents_for, AreRowsOfEach, AppendsMatches}
use Rattle.dict_match.specs.Walks.{Extends}
use Rattle.dict_match.specs.LawProofs.InsideLemmas.{found-inside}
use Rattle.dict_match.specs.LawProofs.MatchLaws.{dict_matches-are, dict_matches-only}
use Rattle.dict_match.proofs.RowLemmas.{extents-append}

module _ (dicts : List DictUse) (d : Doc) (source : Extent) (old new : List DictMatch) where
  appends : Extends (length dicts) old new →
      ((i : ℕ) (dict : DictUse) → slice_get dicts i ≡ Some dict → extents_for i (map dict_and_extent new) ≡ extents_for i (map dict_and_extent old) ++ dict_matches dict d source) →
      AppendsMatches dicts d source (map dict_and_extent old) (map dict_and_extent new)
  appends extends found =
      let added = map dict_and_extent extends.added in
      let after : map dict_and_extent new ≡ map dict_and_extent old ++ added = ap (map dict_and_extent) extends.after ∙ map-append dict_and_extent old extends.added in
      let listed : (i : ℕ) (dict : DictUse) → slice_get dicts i ≡ Some dict → extents_for i added ≡ dict_matches dict d source =
      λ i dict at. append_cancel_left (extents_for i (map dict_and_extent old)) (extents_for i added) (dict_matches dict d source)
      (sym (ap (extents_for i) after ∙ extents-append i (map dict_and_extent old) added) ∙ found i dict at) in
      let each : (i : ℕ) (dict : DictUse) → slice_get dicts i ≡ Some dict → AreMatches dict d source (extents_for i added) =
      λ i dict at. subst (AreMatches dict d source) (sym (listed i dict at)) (dict_matches-are dict d source) in
      let below : All (λ (m : ℕ × Extent). m.0 < length dicts) added = All-map (λ (m : ℕ × Extent). m.0 < length dicts) dict_and_extent extends.added extends.below in
      record {
        added = added;
        after = after;
        below = below;
        within = found-inside dicts d source added below each;
        each = each;
        listed = listed;
      }

  -- the same after a call that may have lacked memory
  pub appends-ok : {E : Type 0} (r : Result (Unit {0}) E) → OnOk r (Extends (length dicts) old new) →
      ((i : ℕ) (dict : DictUse) → slice_get dicts i ≡ Some dict → OnOk r (extents_for i (map dict_and_extent new) ≡ extents_for i (map dict_and_extent old) ++ dict_matches dict d source)) →
      OnOk r (AppendsMatches dicts d source (map dict_and_extent old) (map dict_and_extent new))
  appends-ok (Ok u) extends found = appends extends found
  appends-ok (Err e) extends found = tt

-- the rows of each dictionary are those that the function gives
pub rows-listed : (dicts : List DictUse) (d : Doc) (source : Extent) (rows : List (List Extent)) → AreRowsOfEach dicts d source rows → rows ≡ map (λ dict. dict_matches dict d source) dicts
rows-listed dicts d source rows are =
    ext_get_or [] rows (map (λ dict. dict_matches dict d source) dicts) (are.number ∙ sym (length-map dicts (λ (dict : DictUse). dict_matches dict d source))) (λ i lt.
    let none : DictUse = record { entries = []; exact = true } in
    let within : i < length dicts = omega (arith, lt, are.number) in
    let dict : DictUse = get_or dicts i none in
    dict_matches-only dict d source (get_or rows i []) (are.each i dict (slice_get-get_or dicts i none within))
    ∙ sym (get_or-map (λ (x : DictUse). dict_matches x d source) dicts i none [] within))
