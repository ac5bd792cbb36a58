-- The matches in a source lie in it.
use Rattle.std.proofs.Common.{◌≡◌, ℕ, zero, suc, ◌-◌, ◌<◌, ◌≤◌, Bool, true, false, cond, ◌==◌, List, [], ◌∷◌, map, length, get_or, slice_get, All, Some, sym, ap, subst, arith, eq-eqb, suc-le-suc, zero-le, le_of_suc-le-suc}
use Rattle.std.specs.List.{Contains, filter}
use Rattle.std.proofs.lemmas.Bool.{and_parts, leb-true}
use Rattle.std.proofs.lemmas.List.{length-map, get_or-map, get_or_default}
use Rattle.std.proofs.lemmas.List.Elements.{filter_passes, Contains-get_or, Contains-append_right}
use Rattle.std.proofs.lemmas.Option.{slice_get-get_or}
use Rattle.std.specs.declared.vec.Vec.{Vec}
use Rattle.span_token.specs.Documents.{Doc, characters}
use Rattle.span_token.specs.Extents.{Extent, extent_of, nth_extent}
use Rattle.span_token.specs.Relations.{ContainsExtent, does_contain}
use Rattle.span_token.specs.Tokens.{tokens_of}
use Rattle.span_token.specs.declared.span.Span.{Span}
use Rattle.dict_match.specs.declared.dict_use.DictUse.{DictUse}
use Rattle.span_token.specs.SourceTokens.{tokens_in}
use Rattle.dict_match.specs.Dictionaries.{IsMatch, AreMatches}
use Rattle.dict_match.specs.Rows.{extents_for, extents_of_rows, AreRowsOfEach}

token-inside : (d : Doc) (source : Extent) (i : ℕ) → i < length (tokens_in d source) →
    (source.begin ≤ (nth_extent (tokens_in d source) i).begin) × ((nth_extent (tokens_in d source) i).end ≤ source.end)
token-inside d source i lt =
    let passes : does_contain source (nth_extent (tokens_in d source) i) ≡ true = filter_passes (does_contain source) (tokens_of (characters d)) i (record { begin = 0; end = 0 }) lt in
    let parts = and_parts _ _ passes in
    (leb-true source.begin (nth_extent (tokens_in d source) i).begin parts.0, leb-true (nth_extent (tokens_in d source) i).end source.end parts.1)

pub match-inside : (dict : DictUse) (d : Doc) (source e : Extent) → IsMatch dict d (tokens_in d source) e → ContainsExtent source e
match-inside dict d source e m =
    let some = m.some in
    let there = m.there in
    let one = token-inside d source m.first (omega (arith, some, there)) in
    let two = token-inside d source (m.past - 1) (omega (arith, some, there)) in
    record {
      begins = omega (arith, one.0, ap (λ (x : Extent). x.begin) m.extent_is);
      ends = omega (arith, two.1, ap (λ (x : Extent). x.end) m.extent_is);
    }

-- the extents of one dictionary
pub rows-inside : (dict : DictUse) (d : Doc) (source : Extent) (extents : List Extent) → AreMatches dict d source extents → All (ContainsExtent source) extents
rows-inside dict d source extents are k x lt = match-inside dict d source (get_or extents k x) ((are.exactly (get_or extents k x)).0 (Contains-get_or extents k x lt))

-- a match is among the extents of its dictionary
pair-listed : (ms : List (ℕ × Extent)) (k : ℕ) (m : ℕ × Extent) → k < length ms → get_or ms k m ≡ m → Contains (extents_for m.0 ms) m.1
pair-listed [] k m lt is = absurd (omega arith)
pair-listed (x ∷ ms) zero m lt is =
    let here : x.0 == m.0 ≡ true = eq-eqb x.0 m.0 (ap (λ (y : ℕ × Extent). y.0) is) in
    subst (λ (es : List Extent). Contains es m.1) (sym (ap (λ (b : Bool). map (λ (p : ℕ × Extent). p.1) (cond b (x ∷ filter (λ p. p.0 == m.0) ms) (filter (λ p. p.0 == m.0) ms))) here))
    (0, suc-le-suc zero-le, ap (λ (y : ℕ × Extent). y.1) is)
pair-listed (x ∷ ms) (suc k) m lt is = later (x.0 == m.0) (pair-listed ms k m (le_of_suc-le-suc lt) is) where
  later : (b : Bool) → Contains (extents_for m.0 ms) m.1 →
      Contains (map (λ (p : ℕ × Extent). p.1) (cond b (x ∷ filter (λ p. p.0 == m.0) ms) (filter (λ p. p.0 == m.0) ms))) m.1
  later true c = Contains-append_right (x.1 ∷ []) (extents_for m.0 ms) m.1 c
  later false c = c

pub found-inside : (dicts : List DictUse) (d : Doc) (source : Extent) (ms : List (ℕ × Extent)) → All (λ (m : ℕ × Extent). m.0 < length dicts) ms →
    ((i : ℕ) (dict : DictUse) → slice_get dicts i ≡ Some dict → AreMatches dict d source (extents_for i ms)) → All (λ (m : ℕ × Extent). ContainsExtent source m.1) ms
found-inside dicts d source ms below rows k x lt =
    let m : ℕ × Extent = get_or ms k x in
    let dict : DictUse = get_or dicts m.0 (record { entries = []; exact = true }) in
    let at : slice_get dicts m.0 ≡ Some dict = slice_get-get_or dicts m.0 (record { entries = []; exact = true }) (below k x lt) in
    let listed = pair-listed ms k m lt (get_or_default ms k m x lt) in
    match-inside dict d source m.1 (((rows m.0 dict at).exactly m.1).0 listed)

pub each-inside : {A : Type 0} (dicts : List DictUse) (d : Doc) (source : Extent) (rows : List (Vec Span A)) → AreRowsOfEach dicts d source (extents_of_rows rows) →
    All (λ row. All (λ s. ContainsExtent source (extent_of s)) row.items) rows
each-inside {A} dicts d source rows are i row lt k s low =
    let extents : Vec Span A → List Extent = λ r. map extent_of r.items in
    let within : i < length dicts = omega (arith, lt, are.number, length-map rows extents) in
    let dict : DictUse = get_or dicts i (record { entries = []; exact = true }) in
    let at : slice_get dicts i ≡ Some dict = slice_get-get_or dicts i (record { entries = []; exact = true }) within in
    let here : get_or (extents_of_rows rows) i [] ≡ extents (get_or rows i row) = get_or-map extents rows i row [] lt in
    let all = rows-inside dict d source (extents (get_or rows i row)) (subst (AreMatches dict d source) here (are.each i dict at)) in
    subst (ContainsExtent source) (get_or-map extent_of (get_or rows i row).items k s (extent_of s) low) (all k (extent_of s) (omega (arith, low, length-map (get_or rows i row).items extent_of)))
