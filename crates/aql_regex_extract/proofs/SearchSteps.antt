-- The next match after one that ended, by searches from a place on.
use Rattle.std.proofs.Common.{◌≡◌, ℕ, ◌+◌, ◌-◌, ◌<◌, ◌≤◌, ◌++◌, List, [], length, true, Option, Some, None, sym, ap, ap₂, ◌∙◌, ⊎_elim, subst, append_assoc, arith}
use Rattle.std.proofs.lemmas.List.{append-nil}
use Rattle.std.proofs.lemmas.Option.{none-some, same_Some}
use Rattle.regex_hir.proofs.OptionLemmas.{option_cases}
use Rattle.regex.specs.Patterns.{Re, Match, find_str, find_all_str}
use Rattle.std.specs.List.{flat_map}
use Rattle.regex.specs.Search.{next_match, matches_after}
use Rattle.regex.proofs.SearchLemmas as search_lemmas
use Rattle.span_token.specs.Documents.{Doc}
use Rattle.span_token.specs.Extents.{Extent}
use Rattle.aql_regex_extract.specs.Matches.{row_of}
use Rattle.aql_regex_extract.specs.Steps.{PushesMatch, Pushes}
use Rattle.aql_regex_extract.proofs.CapturedRows.{row_from-enough, row_from-early}

module _ (re : Re) (hay : List ℕ) (after start : ℕ) (starts : start ≡ after - 1) where
  -- no match from the end of the last one on
  pub next-none : find_str re hay start ≡ None → next_match true re hay after ≡ None
  next-none none =
      let from : find_str re hay (after - 1) ≡ None = ap (find_str re hay) (sym starts) ∙ none in
      search_lemmas.next_same re hay true after (λ m e. absurd (none-some m (sym from ∙ e))) ∙ from

  module _ (d : Doc) (source : Extent) (groups : List ℕ) (old new : List (Option Extent)) (end : ℕ)
      (h : PushesMatch after d source groups (find_str re hay start) old new end) where
    found : find_str re hay (after - 1) ≡ Some h.it
    found = ap (find_str re hay) (sym starts) ∙ h.is_found

    -- a match from there on that ends at `after` or later is the next one
    pub pushes-same : after ≤ end → PushesMatch 0 d source groups (next_match true re hay after) old new end
    pushes-same late =
        let enough : after ≤ h.it.trace.end = omega (arith, h.ends) in
        let next = search_lemmas.next_same re hay true after
        (λ m e. subst (λ (x : Match). after ≤ x.trace.end) (same_Some _ _ (sym found ∙ e)) enough) in
        record {
          it = h.it;
          is_found = next ∙ found;
          ends = h.ends;
          pushed = h.pushed ∙ ap (λ row. old ++ row) (row_from-enough after d source groups h.it enough
              ∙ sym (row_from-enough 0 d source groups h.it (omega arith)));
        }

    -- one that ends earlier was the last one: nothing is put after the rows, and the next one starts later
    pub unchanged-later : end < after → new ≡ old
    unchanged-later early =
        let before : h.it.trace.end < after = omega (arith, h.ends) in
        h.pushed ∙ ap (λ row. old ++ row) (row_from-early after d source groups h.it before) ∙ append-nil old

    pub next-later : end < after → next_match true re hay after ≡ find_str re hay after
    next-later early =
        let before : h.it.trace.end < after = omega (arith, h.ends) in
        search_lemmas.next_later re hay true after h.it found before

-- the same step, of an equal search from equal rows
pub Pushes-of_equal : (least : ℕ) (d : Doc) (source : Extent) (groups : List ℕ) (a b : Option Match) (old mid new : List (Option Extent)) (answer : Option ℕ) →
    a ≡ b → mid ≡ old → Pushes least d source groups a mid new answer → Pushes least d source groups b old new answer
Pushes-of_equal least d source groups a b old mid new answer found rows h =
    subst (λ (o : Option Match). Pushes least d source groups o old new answer) found
    (subst (λ (r : List (Option Extent)). Pushes least d source groups a r new answer) rows h)

-- what the rest of a search still puts after the rows
abbrev pub rest_rows : Doc → Extent → List ℕ → Re → List ℕ → ℕ → List (Option Extent)
rest_rows d source groups re hay after = flat_map (row_of d source groups) (matches_after true re hay after)

module _ (re : Re) (hay : List ℕ) (d : Doc) (source : Extent) (groups : List ℕ) where
  module _ (after : ℕ) (old new : List (Option Extent)) (end : ℕ) (h : PushesMatch 0 d source groups (next_match true re hay after) old new end) where
    pub next-within : (after ≤ end) × (end ≤ length hay)
    next-within = let within = search_lemmas.next_within re hay true after h.it h.is_found in (omega (arith, h.ends), omega (arith, h.ends))

    -- what a step puts after the rows, it takes from the rest
    pub rest_rows-step : new ++ rest_rows d source groups re hay (end + 1) ≡ old ++ rest_rows d source groups re hay after
    rest_rows-step =
        let all = search_lemmas.matches_after_some re hay true after h.it h.is_found in
        let row = row_from-enough 0 d source groups h.it (omega arith) in
        ap₂ (λ rows e. rows ++ rest_rows d source groups re hay (e + 1)) (h.pushed ∙ ap (λ r. old ++ r) row) h.ends
        ∙ append_assoc old (row_of d source groups h.it) (rest_rows d source groups re hay (h.it.trace.end + 1))
        ∙ ap (λ ms. old ++ flat_map (row_of d source groups) ms) (sym all)

  -- with no next match there is no rest
  pub rest_rows-none : (after : ℕ) → next_match true re hay after ≡ None → rest_rows d source groups re hay after ≡ []
  rest_rows-none after none = ap (flat_map (row_of d source groups)) (search_lemmas.matches_after_none re hay true after none)

  -- after a match that ended at the end of the text there is no rest
  pub rest_rows-past : (end : ℕ) → length hay ≤ end → rest_rows d source groups re hay (end + 1) ≡ []
  rest_rows-past end past = ⊎_elim
      (rest_rows-none (end + 1))
      (λ (some : (x : Match) × (_ ≡ Some x)). absurd (omega (arith, search_lemmas.next_within re hay true (end + 1) some.0 some.1)))
      (option_cases (next_match true re hay (end + 1)))

  -- from 0 on the rest is all
  pub rest_rows-all : rest_rows d source groups re hay 0 ≡ flat_map (row_of d source groups) (find_all_str re hay)
  rest_rows-all = ap (flat_map (row_of d source groups)) (search_lemmas.matches_after_text re hay)

-- the step of a search for an equal tree
pub PushesMatch-of_same : (a b : Re) (hay : List ℕ) (d : Doc) (source : Extent) (groups : List ℕ) (after : ℕ) (old new : List (Option Extent)) (end : ℕ) →
    a ≡ b → PushesMatch 0 d source groups (next_match true a hay after) old new end → PushesMatch 0 d source groups (next_match true b hay after) old new end
PushesMatch-of_same a b hay d source groups after old new end same h =
    subst (λ (re : Re). PushesMatch 0 d source groups (next_match true re hay after) old new end) same h

-- ---- how many matches there are still

module _ (re : Re) (hay : List ℕ) where
  pub count-step : (d : Doc) (source : Extent) (groups : List ℕ) (after : ℕ) (old new : List (Option Extent)) (end number : ℕ) →
      PushesMatch 0 d source groups (next_match true re hay after) old new end →
      number + 1 + length (matches_after true re hay (end + 1)) ≡ number + length (matches_after true re hay after)
  count-step d source groups after old new end number h =
      let all = search_lemmas.matches_after_some re hay true after h.it h.is_found in
      omega (arith, ap length all, ap (λ (e : ℕ). length (matches_after true re hay (e + 1))) h.ends)

  pub count-none : (after : ℕ) → next_match true re hay after ≡ None → length (matches_after true re hay after) ≡ 0
  count-none after none = ap length (search_lemmas.matches_after_none re hay true after none)

  pub count-past : (end : ℕ) → length hay ≤ end → length (matches_after true re hay (end + 1)) ≡ 0
  count-past end past = ⊎_elim
      (count-none (end + 1))
      (λ (some : (x : Match) × (_ ≡ Some x)). absurd (omega (arith, search_lemmas.next_within re hay true (end + 1) some.0 some.1)))
      (option_cases (next_match true re hay (end + 1)))

  pub count-all : length (matches_after true re hay 0) ≡ length (find_all_str re hay)
  count-all = ap length (search_lemmas.matches_after_text re hay)
