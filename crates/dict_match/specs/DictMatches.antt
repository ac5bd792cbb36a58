-- What dictionaries match, as functions: a test of texts, and the list of extents.
use Rattle.std.specs.Prelude.{ℕ, ◌+◌, ◌-◌, ◌&&◌, nat_lt, Bool, true, false, List, map, length, slice_range}
use Rattle.std.specs.List.{filter, flat_map, list_any, range_with_len}
use Rattle.std.specs.Cmp.Lexicographic.{pointwise}
use Rattle.std.specs.Str.{bytes_eq}
use Rattle.span_token.specs.Documents.{Doc}
use Rattle.span_token.specs.Extents.{Extent}
use Rattle.dict_match.specs.declared.dict_use.DictUse.{DictUse}
use Rattle.span_token.specs.SourceTokens.{tokens_in, run_extent}
use Rattle.dict_match.specs.Dictionaries.{folded, texts_of, entry_texts}

-- `Agree` as a test
abbrev pub do_agree : Bool → List (List ℕ) → List (List ℕ) → Bool
do_agree true xs ys = pointwise bytes_eq xs ys
do_agree false xs ys = pointwise bytes_eq (map folded xs) (map folded ys)

-- `AgreesWith` as a test
unfoldable pub does_agree : DictUse → List (List ℕ) → Bool
does_agree dict texts =
    nat_lt 0 (length texts) && list_any (λ entry. do_agree dict.exact texts (entry_texts entry)) dict.entries

-- of the runs of tokens from number `first` on with the last one before number `past`, the extents of those that agree
-- with an entry
unfoldable pub matches_from : DictUse → Doc → List Extent → ℕ → ℕ → List Extent
matches_from dict d tokens first past =
    map (run_extent tokens first)
    (filter (λ last. does_agree dict (texts_of d (slice_range tokens first (last + 1)))) (range_with_len first (past - first)))

-- of all runs of some tokens
unfoldable pub matches_among : DictUse → Doc → List Extent → List Extent
matches_among dict d tokens =
    flat_map (λ first. matches_from dict d tokens first (length tokens)) (range_with_len 0 (length tokens))

-- the extents that a dictionary matches in a source: the one list that `AreMatches`
abbrev pub dict_matches : DictUse → Doc → Extent → List Extent
dict_matches dict d source = matches_among dict d (tokens_in d source)

-- whether there is one
abbrev pub does_match : DictUse → Doc → Extent → Bool
does_match dict d source = nat_lt 0 (length (dict_matches dict d source))
