-- What is found in a source is what is found from one of its tokens after another.
use Rattle.std.proofs.Common.{◌≡◌, ◌∙◌, ◌+◌, ◌-◌, ◌<◌, ◌≤◌, min, ℕ, zero, suc, List, [], ◌∷◌, length, map, take, drop, Option, Some, None, refl, sym, ap, ap₂, arith, slice_get, slice_range}
use Rattle.std.specs.List.{cons_option, filter, filter_map, flat_map, range_with_len}
use Rattle.std.specs.Option.{option_or}
use Rattle.std.proofs.lemmas.List.{length-take, length-drop, get_or-take, get_or-drop, drop-take, drop-drop, take-take}
use Rattle.span_token.specs.Contexts.{AreWithin}
use Rattle.span_token.specs.Documents.{Doc, characters}
use Rattle.span_token.specs.Extents.{Extent, nth_extent}
use Rattle.span_token.specs.SourceTokens.{run_extent, tokens_in}
use Rattle.span_token.specs.Tokens.{tokens_of}
use Rattle.row_values.specs.Datums.{Datum}
use Rattle.row_values.specs.Rows.{span_in}
use Rattle.aql_regex_extract.specs.TokenRuns.{run_at, whole_row, longest_row, longest_run, run_row, run_rows}
use Rattle.dict_match.specs.Dictionaries.{texts_of}
use Rattle.dict_match.specs.DictMatches.{does_agree, matches_from, matches_among, dict_matches}
use Rattle.dict_match.specs.declared.dict_use.DictUse.{DictUse}
use Rattle.scalar_ops.specs.Extractions.{of_some}
use Rattle.scalar_ops.specs.Tables.{Lists}
use Rattle.aql_typed.specs.Meaning.{found_in}
use Rattle.algebra.specs.declared.node.Local.{Local}
use Rattle.algebra.specs.declared.node.Local.TheVariants.{TokenRegex, Dict}
use Rattle.algebra.specs.Operators.{sought_by}
use Rattle.algebra.specs.Shapes.{IsSought}
use Rattle.plan_operators.specs.Neighbourhoods.{found_from}
use Rattle.plan_operators.proofs.Numbers.{flat_map-shift, map-filter-shift, filter_map-flat, flat_map-none, map-flat_map}

-- ---- some tokens of a text in a row, by their numbers there

pub part-long : (tokens : List Extent) (first past : ℕ) → first ≤ past → past ≤ length tokens → length (slice_range tokens first past) ≡ past - first
part-long tokens first past le within = omega (arith, length-take (past - first) (drop first tokens), length-drop first tokens)

pub part-nth : (tokens : List Extent) (first past i : ℕ) → i < past - first → nth_extent (slice_range tokens first past) i ≡ nth_extent tokens (first + i)
part-nth tokens first past i lt = get_or-take (past - first) (drop first tokens) i _ lt ∙ get_or-drop first tokens i _

cut-part : (xs : List Extent) (n a b : ℕ) → a ≤ b → b ≤ n → take (b - a) (drop a (take n xs)) ≡ take (b - a) (drop a xs)
cut-part xs n a b ab bn =
    let e : n ≡ a + (n - a) = omega (arith, ab, bn) in
    ap (λ m. take (b - a) (drop a (take m xs))) e ∙ ap (take (b - a)) (drop-take a (n - a) xs) ∙ take-take (b - a) (n - a) (drop a xs) (omega (arith, bn))

part-part : (tokens : List Extent) (first past a b : ℕ) → a ≤ b → b ≤ past - first → slice_range (slice_range tokens first past) a b ≡ slice_range tokens (first + a) (first + b)
part-part tokens first past a b ab le =
    let n : b - a ≡ (first + b) - (first + a) = omega arith in
    cut-part (drop first tokens) (past - first) a b ab le ∙ ap (take (b - a)) (drop-drop a first tokens) ∙ ap (λ k. take k (drop (first + a) tokens)) n

-- ---- what each of them gives

longest-same : (f g : ℕ → Option (List (Option Extent))) (low n : ℕ) → ((k : ℕ) → low ≤ k → k < low + n → f k ≡ g k) → longest_row f low n ≡ longest_row g low n
longest-same f g low zero same = refl
longest-same f g low (suc n) same = ap₂ option_or (same (low + n) (omega arith) (omega arith)) (longest-same f g low n (λ k a b. same k a (omega (arith, b))))

module _ (doc : Doc) (tokens : List Extent) (first past : ℕ) (le : first ≤ past) (within : past ≤ length tokens) where
  run-same : (i k : ℕ) → 1 ≤ k → i + k ≤ past - first → run_at (slice_range tokens first past) i k ≡ run_at tokens (first + i) k
  run-same i k some there =
      let n : first + (i + k - 1) ≡ first + i + k - 1 = omega (arith, some) in
      ap₂ (λ (a b : Extent). pair a b) (part-nth tokens first past i (omega (arith, some, there)))
      (part-nth tokens first past (i + k - 1) (omega (arith, some, there)) ∙ ap (nth_extent tokens) n)
    where
      pair : Extent → Extent → Extent
      pair a b = record { begin = a.begin; end = b.end }

  row-same : (pattern : List ℕ) (low high i : ℕ) → 1 ≤ low → i < past - first
      → run_row pattern doc (slice_range tokens first past) low high (0 ∷ []) i ≡ longest_run pattern doc tokens (0 ∷ []) (first + i) low (min high (past - (first + i)) + 1 - low)
  row-same pattern low high i some lt =
      let long = part-long tokens first past le within in
      let n : min high (length (slice_range tokens first past) - i) + 1 - low ≡ min high (past - (first + i)) + 1 - low = omega (arith, long) in
      ap (longest_run pattern doc (slice_range tokens first past) (0 ∷ []) i low) n
      ∙ longest-same (λ k. whole_row pattern doc (0 ∷ []) (run_at (slice_range tokens first past) i k)) (λ k. whole_row pattern doc (0 ∷ []) (run_at tokens (first + i) k))
      low (min high (past - (first + i)) + 1 - low)
      (λ k a b. ap (whole_row pattern doc (0 ∷ [])) (run-same i k (omega (arith, some, a)) (omega (arith, some, a, b))))

  rows-by_token : (pattern : List ℕ) (low high : ℕ) → 1 ≤ low
      → filter_map (run_row pattern doc (slice_range tokens first past) low high (0 ∷ [])) (range_with_len 0 (length (slice_range tokens first past)))
      ≡ flat_map (λ g. cons_option (longest_run pattern doc tokens (0 ∷ []) g low (min high (past - g) + 1 - low)) []) (range_with_len first (past - first))
  rows-by_token pattern low high some =
      let part = slice_range tokens first past in
      ap (λ n. filter_map (run_row pattern doc part low high (0 ∷ [])) (range_with_len 0 n)) (part-long tokens first past le within)
      ∙ filter_map-flat (run_row pattern doc part low high (0 ∷ [])) (range_with_len 0 (past - first))
      ∙ flat_map-shift (λ i. cons_option (run_row pattern doc part low high (0 ∷ []) i) [])
      (λ g. cons_option (longest_run pattern doc tokens (0 ∷ []) g low (min high (past - g) + 1 - low)) []) 0 first (past - first)
      (λ i lt. let n : 0 + i ≡ i = omega arith in
      ap (λ k. cons_option (run_row pattern doc part low high (0 ∷ []) k) []) n ∙ ap (λ o. cons_option o []) (row-same pattern low high i some lt))

  matches-same : (dict : DictUse) (i : ℕ) → i < past - first → matches_from dict doc (slice_range tokens first past) i (length (slice_range tokens first past)) ≡ matches_from dict doc tokens (first + i) past
  unfolding matches_from
  matches-same dict i lt =
      let part = slice_range tokens first past in
      let n : length part - i ≡ past - (first + i) = omega (arith, part-long tokens first past le within) in
      ap (λ m. map (run_extent part i) (filter (λ last. does_agree dict (texts_of doc (slice_range part i (last + 1)))) (range_with_len i m))) n
      ∙ map-filter-shift (run_extent part i) (run_extent tokens (first + i)) (λ last. does_agree dict (texts_of doc (slice_range part i (last + 1))))
      (λ last. does_agree dict (texts_of doc (slice_range tokens (first + i) (last + 1)))) i (first + i) (past - (first + i))
      (λ j lt. let m : first + (i + j) ≡ first + i + j = omega arith in
      ap₂ (λ (a b : Extent). pair a b) (part-nth tokens first past i (omega (arith, lt))) (part-nth tokens first past (i + j) (omega (arith, lt)) ∙ ap (nth_extent tokens) m))
      (λ j lt. let m : first + (i + j + 1) ≡ first + i + j + 1 = omega arith in
      ap (λ (ts : List Extent). does_agree dict (texts_of doc ts))
      (part-part tokens first past i (i + j + 1) (omega arith) (omega (arith, lt)) ∙ ap (slice_range tokens (first + i)) m))
    where
      pair : Extent → Extent → Extent
      pair a b = record { begin = a.begin; end = b.end }

  matches-by_token : (dict : DictUse) → matches_among dict doc (slice_range tokens first past) ≡ flat_map (λ g. matches_from dict doc tokens g past) (range_with_len first (past - first))
  unfolding matches_among
  matches-by_token dict =
      let part = slice_range tokens first past in
      ap (λ n. flat_map (λ i. matches_from dict doc part i (length part)) (range_with_len 0 n)) (part-long tokens first past le within)
      ∙ flat_map-shift (λ i. matches_from dict doc part i (length part)) (λ g. matches_from dict doc tokens g past) 0 first (past - first)
      (λ i lt. let n : 0 + i ≡ i = omega arith in ap (λ k. matches_from dict doc part k (length part)) n ∙ matches-same dict i lt)

-- ---- what all of them give

some-by_number : {A B : Type 0} (f : A → List B) (g : A → ℕ → List B) (ks : List ℕ) → ((a : A) → f a ≡ flat_map (g a) ks) → (o : Option A) → of_some f o ≡ flat_map (λ k. of_some (λ a. g a k) o) ks
some-by_number f g ks each None = sym (flat_map-none (λ k. []) (λ k. refl) ks)
some-by_number f g ks each (Some a) = each a

module _ (lists : Lists) (doc : Doc) (source : Extent) (first past : ℕ) (within : AreWithin (tokens_of (characters doc)) source first past) where
  tokens-are : tokens_in doc source ≡ slice_range (tokens_of (characters doc)) first past
  tokens-are = sym within.tokens_are

  runs-found : (pattern : List ℕ) (low high : ℕ) → 1 ≤ low → run_rows pattern doc source low high (0 ∷ [])
      ≡ flat_map (λ g. cons_option (longest_run pattern doc (tokens_of (characters doc)) (0 ∷ []) g low (min high (past - g) + 1 - low)) []) (range_with_len first (past - first))
  unfolding run_rows
  runs-found pattern low high some =
      ap (λ (ts : List Extent). filter_map (run_row pattern doc ts low high (0 ∷ [])) (range_with_len 0 (length ts))) tokens-are
      ∙ rows-by_token doc (tokens_of (characters doc)) first past within.ordered within.in_list pattern low high some

  -- what is sought in a source is found from one of its tokens after another
  pub found-by_token : (local : Local) (row : List Datum) → IsSought local → span_in 0 row ≡ Some source
      → found_in lists doc (sought_by local) row ≡ flat_map (found_from lists doc local past) (range_with_len first (past - first))
  found-by_token (TokenRegex low high p) row sought at =
      ap (of_some (λ (s : Extent). of_some (λ pattern. run_rows pattern doc s low high (0 ∷ [])) (slice_get lists.patterns p))) at
      ∙ some-by_number (λ pattern. run_rows pattern doc source low high (0 ∷ []))
      (λ pattern g. cons_option (longest_run pattern doc (tokens_of (characters doc)) (0 ∷ []) g low (min high (past - g) + 1 - low)) [])
      (range_with_len first (past - first)) (λ pattern. runs-found pattern low high sought) (slice_get lists.patterns p)
  found-by_token (Dict d) row sought at =
      ap (of_some (λ (s : Extent). map (λ e. Some e ∷ []) (of_some (λ dictionary. dict_matches dictionary doc s) (slice_get lists.dicts d)))) at
      ∙ ap (map (λ e. Some e ∷ []))
      (some-by_number (λ dictionary. dict_matches dictionary doc source) (λ dictionary g. matches_from dictionary doc (tokens_of (characters doc)) g past)
      (range_with_len first (past - first))
      (λ dictionary. ap (matches_among dictionary doc) tokens-are ∙ matches-by_token doc (tokens_of (characters doc)) first past within.ordered within.in_list dictionary)
      (slice_get lists.dicts d))
      ∙ map-flat_map (λ e. Some e ∷ []) (λ g. of_some (λ dictionary. matches_from dictionary doc (tokens_of (characters doc)) g past) (slice_get lists.dicts d)) (range_with_len first (past - first))
