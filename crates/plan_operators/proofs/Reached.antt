-- How far what is found from a token reaches: it lies in a run of tokens from there, and what stands behind a run as long
-- as a match may be changes nothing.
use Rattle.std.proofs.Common.{◌≡◌, ◌∙◌, ◌+◌, ◌-◌, ◌<◌, ◌≤◌, ◌++◌, ◌*◌, min, ℕ, zero, suc, true, false, List, [], ◌∷◌, length, map, take, drop, Option, Some, None, option_map, refl, sym, ap, subst, arith, slice_get, slice_range, IsUtf8, encode_utf8_all, inl, inr, IsTrue}
use Rattle.std.specs.List.{cons_option, filter, range_with_len}
use Rattle.std.specs.Option.{option_or}
use Rattle.std.specs.Str.{chars, chars_after, continuation_len, lead_bits}
use Rattle.std.proofs.Math.Utf8.{scalar, scalars}
use Rattle.std.proofs.lemmas.Bool.{and_parts, and_from, cases_Bool, cases_lt}
use Rattle.std.proofs.lemmas.List.{length-take, length-map, append-nil}
use Rattle.std.proofs.lemmas.List.Elements.{filter-append}
use Rattle.std.proofs.lemmas.Option.{none-some, same_Some}
use Rattle.std.proofs.lemmas.Str.{chars-encodes, scalars-chars}
use Rattle.span_token.specs.Documents.{Doc, characters, text_in, moved}
use Rattle.span_token.specs.Extents.{Extent, nth_extent}
use Rattle.span_token.specs.SourceTokens.{run_extent}
use Rattle.span_token.specs.Tokens.{tokens_of}
use Rattle.aql_regex_extract.specs.Matches.{first_match, group_in, row_by, row_of}
use Rattle.aql_regex_extract.specs.Patterns.{whole_form}
use Rattle.aql_regex_extract.specs.TokenRuns.{run_at, whole_row, longest_row, longest_run}
use Rattle.dict_match.specs.Dictionaries.{texts_of}
use Rattle.dict_match.specs.DictMatches.{does_agree, matches_from}
use Rattle.dict_match.specs.declared.dict_use.DictUse.{DictUse}
use Rattle.scalar_ops.specs.Extractions.{of_some}
use Rattle.scalar_ops.specs.Tables.{Lists}
use Rattle.algebra.specs.declared.node.Local.{Local}
use Rattle.algebra.specs.declared.node.Local.TheVariants.{TokenRegex, Dict}
use Rattle.algebra.specs.Shapes.{IsSought}
use Rattle.plan_operators.specs.Neighbourhoods.{EndsIn, IsInRun, IsReach, found_from}
use Rattle.plan_operators.proofs.Found.{part-long}
use Rattle.plan_operators.proofs.Numbers.{Each, each-map, each-passing, none-passing, range-split}
use Rattle.plan_operators.proofs.TokenNumbers.{tokens-in-order, begins-rise}

-- ---- characters in front of a byte

fewer-after : (n c k : ℕ) (bs : List ℕ) → length (chars_after n c (take k bs)) ≤ length (chars_after n c bs)
fewer-after zero c k [] = fewer_nil k
  where
    fewer_nil : (k : ℕ) → length (chars_after 0 c (take k [])) ≤ length (chars_after 0 c [])
    fewer_nil zero = omega arith
    fewer_nil (suc k) = omega arith
fewer-after zero c zero (b ∷ bs) = omega arith
fewer-after zero c (suc k) (b ∷ bs) = omega (arith, fewer-after (continuation_len b) (lead_bits b) k bs)
fewer-after (suc n) c zero bs = omega arith
fewer-after (suc n) c (suc k) [] = omega arith
fewer-after (suc n) c (suc k) (b ∷ bs) = fewer-after n (c * 64 + (b - 128)) k bs

fewer-before : (k : ℕ) (bs : List ℕ) → length (chars (take k bs)) ≤ length (chars bs)
unfolding chars
fewer-before zero bs = omega arith
fewer-before (suc k) [] = omega arith
fewer-before (suc k) (b ∷ bs) = fewer-after (continuation_len b) (lead_bits b) k bs

scalars-take : (n : ℕ) (cs : List ℕ) → scalars cs ≡ true → scalars (take n cs) ≡ true
scalars-take zero cs e = refl
scalars-take (suc n) [] e = refl
scalars-take (suc n) (c ∷ cs) e =
    let parts = and_parts (scalar c) (scalars cs) e in
    and_from (scalar c) (scalars (take n cs)) parts.0 (scalars-take n cs parts.1)

scalars-drop : (n : ℕ) (cs : List ℕ) → scalars cs ≡ true → scalars (drop n cs) ≡ true
scalars-drop zero cs e = e
scalars-drop (suc n) [] e = refl
scalars-drop (suc n) (c ∷ cs) e = scalars-drop n cs (and_parts (scalar c) (scalars cs) e).1

-- bytes of an extent's text are in the extent
moved-in : (doc : Doc) (e : Extent) (from to : ℕ) → IsUtf8 doc.text → e.begin ≤ e.end → EndsIn e (moved doc e from to)
moved-in doc e from to utf8 ordered =
    let cs = take (e.end - e.begin) (drop e.begin (characters doc)) in
    let all : chars (encode_utf8_all cs) ≡ cs = chars-encodes cs (scalars-take (e.end - e.begin) (drop e.begin (characters doc)) (scalars-drop e.begin (characters doc) (scalars-chars doc.text utf8))) in
    let long : length (chars (text_in doc e)) ≤ e.end - e.begin = omega (arith, ap length all, length-take (e.end - e.begin) (drop e.begin (characters doc))) in
    let a = fewer-before from (text_in doc e) in
    let b = fewer-before to (text_in doc e) in
    record { begin_from = omega arith; begin_to = omega (arith, a, long, ordered); end_from = omega arith; end_to = omega (arith, b, long, ordered) }

-- ---- matches in runs

-- the match is one span, in a run of at most `reach` tokens that begins with number `first` and ends before number `past`
pub record IsFoundNear (tokens : List Extent) (reach past first : ℕ) (found : List (Option Extent)) : Type 0 where
  pub extent : Extent
  pub is : found ≡ Some extent ∷ []
  pub stop : ℕ
  pub in_run : IsInRun tokens first stop extent
  pub short : stop ≤ first + reach
  pub before : stop ≤ past

longest-one : (rows : ℕ → Option (List (Option Extent))) (low n : ℕ) (row : List (Option Extent)) → longest_row rows low n ≡ Some row
    → (k : ℕ) × (low ≤ k) × (k < low + n) × (rows k ≡ Some row)
longest-one rows low zero row is = absurd (none-some row is)
longest-one rows low (suc n) row is = by (rows (low + n)) refl is (λ rest. longest-one rows low n row rest)
  where
    by : (o : Option (List (Option Extent))) → rows (low + n) ≡ o → option_or o (longest_row rows low n) ≡ Some row
        → (longest_row rows low n ≡ Some row → (k : ℕ) × (low ≤ k) × (k < low + n) × (rows k ≡ Some row)) → (k : ℕ) × (low ≤ k) × (k < low + suc n) × (rows k ≡ Some row)
    by None at rest before = let found = before rest in (found.0, found.1, omega (arith, found.2), found.3)
    by (Some r) at here before = (low + n, omega arith, omega arith, at ∙ here)

module _ (doc : Doc) (utf8 : IsUtf8 doc.text) where
  run-ordered : (first last : ℕ) → first ≤ last → last < length (tokens_of (characters doc))
      → (nth_extent (tokens_of (characters doc)) first).begin ≤ (nth_extent (tokens_of (characters doc)) last).end
  run-ordered first last le lt =
      let order = tokens-in-order (characters doc) in
      let rise = begins-rise (tokens_of (characters doc)) order first last le lt in
      let filled = order.filled last lt in
      omega (arith, rise, filled)

  -- one span, both ends of which are in an extent
  abbrev IsOneIn : Extent → List (Option Extent) → Type 0
  IsOneIn e found = (one : Extent) × (found ≡ Some one ∷ []) × EndsIn e one

  one-in : (e : Extent) → e.begin ≤ e.end → (spans : ℕ → Option (ℕ × ℕ)) (whole : ℕ × ℕ) → spans 0 ≡ Some whole → IsOneIn e (row_by doc e (0 ∷ []) spans)
  one-in e ordered spans whole is =
      (moved doc e whole.0 whole.1, ap (λ (o : Option (ℕ × ℕ)). option_map (λ (from, to). moved doc e from to) o ∷ []) is, moved-in doc e whole.0 whole.1 utf8 ordered)

  one-of : {M : Type 0} (e : Extent) (rows : M → List (Option Extent)) → ((m : M) → IsOneIn e (rows m)) → (o : Option M) (row : List (Option Extent)) → option_map rows o ≡ Some row → IsOneIn e row
  one-of e rows each None row is = absurd (none-some row is)
  one-of e rows each (Some m) row is = subst (IsOneIn e) (same_Some _ _ is) (each m)

  run-found : (pattern : List ℕ) (low high reach past first : ℕ) → 1 ≤ low → high ≤ reach → past ≤ length (tokens_of (characters doc)) → (row : List (Option Extent))
      → longest_run pattern doc (tokens_of (characters doc)) (0 ∷ []) first low (min high (past - first) + 1 - low) ≡ Some row → IsFoundNear (tokens_of (characters doc)) reach past first row
  run-found pattern low high reach past first some fits there row is =
      let tokens = tokens_of (characters doc) in
      let longest = longest-one (λ k. whole_row pattern doc (0 ∷ []) (run_at tokens first k)) low (min high (past - first) + 1 - low) row is in
      let k = longest.0 in
      let filled : 1 ≤ k = omega (arith, some, longest.1) in
      let inside : first + k ≤ past = omega (arith, some, longest.1, longest.2) in
      let short : k ≤ high = omega (arith, some, longest.1, longest.2) in
      let run = run_at tokens first k in
      let ordered = run-ordered first (first + k - 1) (omega (arith, filled)) (omega (arith, filled, inside, there)) in
      let one = one-of run (row_of doc run (0 ∷ [])) (λ m. one-in run ordered (group_in m) _ refl) (first_match (whole_form pattern) (text_in doc run)) row longest.3 in
      record {
        extent = one.0;
        is = one.1;
        stop = first + k;
        in_run = record { some = omega (arith, filled); there = omega (arith, inside, there); ends = one.2 };
        short = omega (arith, short, fits);
        before = inside;
      }

  entry-found : (dict : DictUse) (reach past first : ℕ) → past ≤ length (tokens_of (characters doc))
      → ((a b : ℕ) → b ≤ length (tokens_of (characters doc)) → does_agree dict (texts_of doc (slice_range (tokens_of (characters doc)) a b)) ≡ true → b ≤ a + reach)
      → Each (λ e. IsFoundNear (tokens_of (characters doc)) reach past first (Some e ∷ [])) (matches_from dict doc (tokens_of (characters doc)) first past)
  unfolding matches_from
  entry-found dict reach past first there bound =
      let tokens = tokens_of (characters doc) in
      each-passing (λ e. IsFoundNear tokens reach past first (Some e ∷ [])) (run_extent tokens first)
      (λ last. does_agree dict (texts_of doc (slice_range tokens first (last + 1)))) first (past - first)
      (λ last low high agrees. one last low (omega (arith, low, high)) agrees)
    where
      one : (last : ℕ) → first ≤ last → last < past → does_agree dict (texts_of doc (slice_range (tokens_of (characters doc)) first (last + 1))) ≡ true
          → IsFoundNear (tokens_of (characters doc)) reach past first (Some (run_extent (tokens_of (characters doc)) first last) ∷ [])
      one last low high agrees =
          let tokens = tokens_of (characters doc) in
          let ordered = run-ordered first last low (omega (arith, high, there)) in
          let n : last ≡ last + 1 - 1 = omega arith in
          let itself : EndsIn (run_extent tokens first last) (run_extent tokens first last) = record { begin_from = omega arith; begin_to = ordered; end_from = ordered; end_to = omega arith } in
          record {
            extent = run_extent tokens first last;
            is = refl;
            stop = last + 1;
            in_run = record {
              some = omega (arith, low);
              there = omega (arith, high, there);
              ends = subst (λ (k : ℕ). EndsIn (run_extent tokens first k) (run_extent tokens first last)) n itself;
            };
            short = bound first (last + 1) (omega (arith, high, there)) agrees;
            before = omega (arith, high);
          }

  module _ (lists : Lists) where
    -- what is found from a token on lies in a run from there
    pub found-near : (local : Local) (reach past first : ℕ) → IsSought local → IsReach lists doc local reach → past ≤ length (tokens_of (characters doc))
        → Each (IsFoundNear (tokens_of (characters doc)) reach past first) (found_from lists doc local past first)
    found-near (TokenRegex low high p) reach past first sought reached there = of_pattern (slice_get lists.patterns p)
      where
        of_row : (pattern : List ℕ) (o : Option (List (Option Extent)))
            → longest_run pattern doc (tokens_of (characters doc)) (0 ∷ []) first low (min high (past - first) + 1 - low) ≡ o
            → Each (IsFoundNear (tokens_of (characters doc)) reach past first) (cons_option o [])
        of_row pattern None is = tt
        of_row pattern (Some row) is = (run-found pattern low high reach past first sought reached there row is, tt)

        of_pattern : (o : Option (List ℕ)) → Each (IsFoundNear (tokens_of (characters doc)) reach past first)
            (of_some (λ pattern. cons_option (longest_run pattern doc (tokens_of (characters doc)) (0 ∷ []) first low (min high (past - first) + 1 - low)) []) o)
        of_pattern None = tt
        of_pattern (Some pattern) = of_row pattern (longest_run pattern doc (tokens_of (characters doc)) (0 ∷ []) first low (min high (past - first) + 1 - low)) refl
    found-near (Dict d) reach past first sought reached there =
        each-map (λ e. IsFoundNear (tokens_of (characters doc)) reach past first (Some e ∷ [])) (IsFoundNear (tokens_of (characters doc)) reach past first) (λ e. Some e ∷ []) (λ e near. near)
        (of_some (λ dictionary. matches_from dictionary doc (tokens_of (characters doc)) first past) (slice_get lists.dicts d)) (of_dict (slice_get lists.dicts d) refl)
      where
        of_dict : (o : Option DictUse) → slice_get lists.dicts d ≡ o
            → Each (λ e. IsFoundNear (tokens_of (characters doc)) reach past first (Some e ∷ [])) (of_some (λ dictionary. matches_from dictionary doc (tokens_of (characters doc)) first past) o)
        of_dict None at = tt
        of_dict (Some the) at = entry-found the reach past first there (λ a b inside agrees. reached the a b at inside agrees)

    -- tokens behind a run as long as a match may be change nothing
    pub found-limit : (local : Local) (reach past first : ℕ) → IsReach lists doc local reach → first + reach ≤ past → past ≤ length (tokens_of (characters doc))
        → found_from lists doc local past first ≡ found_from lists doc local (first + reach) first
    unfolding matches_from
    found-limit (TokenRegex low high p) reach past first reached enough there =
        let n : min high (past - first) + 1 - low ≡ min high (first + reach - first) + 1 - low = omega (arith, reached, enough) in
        ap (λ m. of_some (λ pattern. cons_option (longest_run pattern doc (tokens_of (characters doc)) (0 ∷ []) first low m) []) (slice_get lists.patterns p)) n
    found-limit (Dict d) reach past first reached enough there = ap (map (λ e. Some e ∷ [])) (of_dict (slice_get lists.dicts d) refl)
      where
        entries : (the : DictUse) → slice_get lists.dicts d ≡ Some the
            → matches_from the doc (tokens_of (characters doc)) first past ≡ matches_from the doc (tokens_of (characters doc)) first (first + reach)
        entries the at =
            let tokens = tokens_of (characters doc) in
            let agrees = λ (last : ℕ). does_agree the (texts_of doc (slice_range tokens first (last + 1))) in
            let n : past - first ≡ reach + (past - first - reach) = omega (arith, enough) in
            let m : first + reach - first ≡ reach = omega arith in
            ap (map (run_extent tokens first))
            (ap (λ k. filter agrees (range_with_len first k)) n ∙ ap (filter agrees) (range-split first reach (past - first - reach))
            ∙ filter-append agrees (range_with_len first reach) (range_with_len (first + reach) (past - first - reach))
            ∙ ap (λ ks. filter agrees (range_with_len first reach) ++ ks) (none-passing agrees (first + reach) (past - first - reach) (too_long the at))
            ∙ append-nil (filter agrees (range_with_len first reach)) ∙ ap (λ k. filter agrees (range_with_len first k)) (sym m))
          where
            too_long : (the : DictUse) → slice_get lists.dicts d ≡ Some the → (last : ℕ) → first + reach ≤ last → last < first + reach + (past - first - reach)
                → does_agree the (texts_of doc (slice_range (tokens_of (characters doc)) first (last + 1))) ≡ false
            too_long the at last low high = elim (cases_Bool (does_agree the (texts_of doc (slice_range (tokens_of (characters doc)) first (last + 1))))) [
              | inl passes ↦ absurd (omega (arith, low, reached the first (last + 1) at (omega (arith, high, there, enough)) passes))
              | inr fails ↦ fails
            ]

        of_dict : (o : Option DictUse) → slice_get lists.dicts d ≡ o
            → of_some (λ dictionary. matches_from dictionary doc (tokens_of (characters doc)) first past) o
            ≡ of_some (λ dictionary. matches_from dictionary doc (tokens_of (characters doc)) first (first + reach)) o
        of_dict None at = refl
        of_dict (Some the) at = entries the at

-- ---- how many tokens the match of a dictionary has at most

-- as many as its longest entry
pub reach_by : (lists : Lists) (doc : Doc) (d most : ℕ) →
    ((the : DictUse) (texts : List (List ℕ)) → slice_get lists.dicts d ≡ Some the → IsTrue (does_agree the texts) → length texts ≤ most) →
    IsReach lists doc (Dict d) most
reach_by lists doc d most entries = λ the first past is there agrees.
    let tokens = tokens_of (characters doc) in
    elim (cases_lt past first) [
      | inl before ↦ omega (arith, before)
      | inr from ↦ omega (
        arith,
        entries the (texts_of doc (slice_range tokens first past)) is agrees,
        length-map (slice_range tokens first past) (text_in doc),
        part-long tokens first past from there,
      )
    ]

-- or as many as there are
pub reach_all : (lists : Lists) (doc : Doc) (d : ℕ) → IsReach lists doc (Dict d) (length (tokens_of (characters doc)))
reach_all lists doc d = λ the first past is there agrees. omega arith
