-- Rows of groups that stand one after another, cut apart again.
use Rattle.std.proofs.Common.{◌≡◌, ℕ, zero, suc, ◌++◌, ◌+◌, ◌-◌, ◌*◌, ◌<◌, List, [], ◌∷◌, map, length, take, drop, Option, Some, None, option_map, refl, sym, ap, ap₂, subst, ◌∙◌, append_assoc, arith}
use Rattle.std.specs.List.{All, cons_option, filter_map, flat_map, range_with_len}
use Rattle.std.specs.Option.{option_or}
use Rattle.std.proofs.lemmas.List.{length-map, length-append, take_at, drop_at}
use Rattle.std.proofs.lemmas.List.Elements.{All-nil, All-cons, All-head, All-tail, All-append, All-map, All-take, All-drop, All-weaker}
use Rattle.std.proofs.Math.Nat.{suc-mul}
use Rattle.std.proofs.lemmas.Option.{none-some, same_Some}
use Rattle.span_token.specs.Documents.{Doc, text_in}
use Rattle.span_token.specs.Extents.{Extent, extent_of}
use Rattle.span_token.specs.SourceTokens.{tokens_in}
use Rattle.span_token.specs.declared.span.Span.{Span}
use Rattle.row_values.specs.Datums.{Datum, IsOfDocument}
use Rattle.row_values.specs.Rows.{RowList, RowsLieIn, span_in}
use Rattle.aql_regex_extract.specs.Matches.{first_match, match_rows, matches_of, row_of as groups_of, PutsRows, extents_of}
use Rattle.aql_regex_extract.specs.Patterns.{whole_form}
use Rattle.aql_regex_extract.specs.Steps.{cut_rows}
use Rattle.aql_regex_extract.specs.TokenRuns.{run_at, whole_row, longest_row, run_row, run_rows}
use Rattle.dict_match.specs.DictMatches.{dict_matches}
use Rattle.scalar_ops.specs.Extractions.{of_some, of_pattern, of_dict}
use Rattle.scalar_ops.specs.Tables.{Lists}
use Rattle.aql_typed.specs.Trees.{Extraction, regex, token_regex, dict, blocks}
use Rattle.aql_typed.specs.Fitting.{found_width}
use Rattle.aql_typed.specs.Meaning.{group_value, found_in}
use Rattle.row_operators.specs.Searches.{IsFoundIn}

-- one row more from the front
pub cut-step : {X : Type 0} {Y : Type 0} (f : List X → Y) (rows : List Y) (left w : ℕ) (xs : List X) →
    (rows ++ f (take w xs) ∷ []) ++ map f (cut_rows left w (drop w xs)) ≡ rows ++ map f (cut_rows (suc left) w xs)
cut-step f rows left w xs = append_assoc rows (f (take w xs) ∷ []) (map f (cut_rows left w (drop w xs)))

take_away : (w m : ℕ) → (m + w) - w ≡ m
take_away w m = omega arith

-- so many entries less
pub one_less : (n w k : ℕ) → 0 < n → k ≡ n * w → k - w ≡ (n - 1) * w
one_less zero w k some is = absurd (omega (arith, some))
one_less (suc n) w k some is =
    let same : suc n - 1 ≡ n = omega arith in
    ap (λ (m : ℕ). m - w) (is ∙ suc-mul n w) ∙ (take_away w (n * w) ∙ ap (λ (m : ℕ). m * w) (sym same))

-- rows of one width, one after another, are cut apart again
pub cut_again : {X : Type 0} (w : ℕ) (rows : List (List X)) → All (λ row. length row ≡ w) rows → cut_rows (length rows) w (flat_map (λ r. r) rows) ≡ rows
cut_again w [] wide = refl
cut_again w (row ∷ rows) wide =
    let first = All-head (λ row. length row ≡ w) row rows wide in
    ap₂ (λ a b. a ∷ cut_rows (length rows) w b) (take_at row (flat_map (λ r. r) rows) w first) (drop_at row (flat_map (λ r. r) rows) w first)
    ∙ ap (λ b. row ∷ b) (cut_again w rows (All-tail (λ row. length row ≡ w) row rows wide))

-- and have so many entries
pub entries_of : {X : Type 0} (w : ℕ) (rows : List (List X)) → All (λ row. length row ≡ w) rows → length (flat_map (λ r. r) rows) ≡ length rows * w
entries_of w [] wide = omega arith
entries_of w (row ∷ rows) wide =
    let first = All-head (λ row. length row ≡ w) row rows wide in
    let rest = entries_of w rows (All-tail (λ row. length row ≡ w) row rows wide) in
    length-append row (flat_map (λ r. r) rows) ∙ omega (arith, first, rest)

-- ---- what is found in a row has one width

row-wide : {M X : Type 0} (f : M → List X) (w : ℕ) → ((m : M) → length (f m) ≡ w) → (o : Option M) (row : List X) → option_map f o ≡ Some row → length row ≡ w
row-wide f w wide None row is = absurd (none-some _ is)
row-wide f w wide (Some m) row is = ap length (sym (same_Some _ _ is)) ∙ wide m

or-wide : {X : Type 0} (w : ℕ) (here rest : Option (List X)) → ((row : List X) → here ≡ Some row → length row ≡ w) →
    ((row : List X) → rest ≡ Some row → length row ≡ w) → (row : List X) → option_or here rest ≡ Some row → length row ≡ w
or-wide w None rest a b row is = b row is
or-wide w (Some r) rest a b row is = a row is

longest-wide : (rows : ℕ → Option (List (Option Extent))) (w : ℕ) → ((k : ℕ) (row : List (Option Extent)) → rows k ≡ Some row → length row ≡ w) →
    (low n : ℕ) (row : List (Option Extent)) → longest_row rows low n ≡ Some row → length row ≡ w
longest-wide rows w wide low zero row is = absurd (none-some _ is)
longest-wide rows w wide low (suc n) row is =
    or-wide w (rows (low + n)) (longest_row rows low n) (wide (low + n)) (longest-wide rows w wide low n) row is

option-wide : {X : Type 0} (w : ℕ) (o : Option (List X)) (rows : List (List X)) → ((row : List X) → o ≡ Some row → length row ≡ w) → All (λ row. length row ≡ w) rows
    → All (λ row. length row ≡ w) (cons_option o rows)
option-wide w None rows wide rest = rest
option-wide w (Some row) rows wide rest = All-cons (λ row. length row ≡ w) row rows (wide row refl) rest

chosen-wide : {X : Type 0} (f : ℕ → Option (List X)) (w : ℕ) → ((i : ℕ) (row : List X) → f i ≡ Some row → length row ≡ w) → (numbers : List ℕ) →
    All (λ row. length row ≡ w) (filter_map f numbers)
chosen-wide {X} f w wide [] = All-nil (λ (row : List X). length row ≡ w)
chosen-wide f w wide (i ∷ numbers) = option-wide w (f i) (filter_map f numbers) (wide i) (chosen-wide f w wide numbers)

runs-wide : (pattern : List ℕ) (d : Doc) (source : Extent) (low high : ℕ) (groups : List ℕ) → All (λ row. length row ≡ length groups) (run_rows pattern d source low high groups)
unfolding run_rows
runs-wide pattern d source low high groups =
    let tokens = tokens_in d source in
    chosen-wide (run_row pattern d tokens low high groups) (length groups)
    (λ i row is. longest-wide (λ k. whole_row pattern d groups (run_at tokens i k)) (length groups)
    (λ k r h. row-wide (groups_of d (run_at tokens i k) groups) (length groups) (λ m. length-map groups _) (first_match (whole_form pattern) (text_in d (run_at tokens i k))) r h)
    low _ row is)
    (range_with_len 0 (length tokens))

mapped-wide : {A X : Type 0} (f : A → List X) (w : ℕ) → ((a : A) → length (f a) ≡ w) → (items : List A) → All (λ row. length row ≡ w) (map f items)
mapped-wide f w wide items = All-map (λ row. length row ≡ w) f items (λ k d below. wide _)

-- what is there has the width, where all that may be there have it
some-wide : {A X : Type 0} (f : A → List (List X)) (w : ℕ) → ((a : A) → All (λ row. length row ≡ w) (f a)) → (o : Option A) → All (λ row. length row ≡ w) (of_some f o)
some-wide {A} {X} f w wide None = All-nil (λ (row : List X). length row ≡ w)
some-wide f w wide (Some a) = wide a

module _ (lists : Lists) (doc : Doc) where
  pub found-wide : (e : Extraction) (row : List Datum) → All (λ groups. length groups ≡ found_width e) (found_in lists doc e row)
  found-wide (regex column p groups) row =
      some-wide (λ source. of_pattern lists p (λ pattern. match_rows pattern doc source groups)) (length groups)
      (λ source. some-wide (λ pattern. match_rows pattern doc source groups) (length groups)
      (λ pattern. mapped-wide (groups_of doc source groups) (length groups) (λ m. length-map groups _) (matches_of pattern (text_in doc source))) _) (span_in column row)
  found-wide (token_regex column low high p groups) row =
      some-wide (λ source. of_pattern lists p (λ pattern. run_rows pattern doc source low high groups)) (length groups)
      (λ source. some-wide (λ pattern. run_rows pattern doc source low high groups) (length groups)
      (λ pattern. runs-wide pattern doc source low high groups) _) (span_in column row)
  found-wide (dict column d) row =
      some-wide (λ source. map (λ e. Some e ∷ []) (of_dict lists d (λ dictionary. dict_matches dictionary doc source))) 1
      (λ source. mapped-wide (λ e. Some e ∷ []) 1 (λ e. refl) (of_dict lists d (λ dictionary. dict_matches dictionary doc source))) (span_in column row)
  found-wide (blocks column low high from to tokens) row = All-nil (λ groups. length groups ≡ 1)

-- ---- where the rows lie

values_lie : (doc : Doc) (n w : ℕ) (groups : List (Option Extent)) → All (λ e. IsOfDocument doc (group_value e)) groups
    → All (All (λ e. IsOfDocument doc (group_value e))) (cut_rows n w groups)
values_lie doc zero w groups lie = All-nil (All (λ e. IsOfDocument doc (group_value e)))
values_lie doc (suc n) w groups lie =
    let P : Option Extent → Type 0 = λ e. IsOfDocument doc (group_value e) in
    All-cons (All P) (take w groups) (cut_rows n w (drop w groups)) (All-take P w groups lie) (values_lie doc n w (drop w groups) (All-drop P w groups lie))

-- rows of values that lie in the document and of what is found in it
pub cut_lies : (doc : Doc) (lead : List Datum) (n w : ℕ) (found : List (Option Span)) → All (IsOfDocument doc) lead → All (IsFoundIn doc) found
    → RowsLieIn doc (map (λ groups. lead ++ map group_value groups) (cut_rows n w (extents_of found)))
cut_lies doc lead n w found lies inside =
    let P : Option Extent → Type 0 = λ e. IsOfDocument doc (group_value e) in
    All-map (All (IsOfDocument doc)) (λ groups. lead ++ map group_value groups) (cut_rows n w (extents_of found))
    (All-weaker (All P) (λ groups. All (IsOfDocument doc) (lead ++ map group_value groups))
    (λ groups lie. All-append (IsOfDocument doc) lead (map group_value groups) lies (All-map (IsOfDocument doc) group_value groups lie))
    (cut_rows n w (extents_of found)) (values_lie doc n w (extents_of found) (All-map P (option_map extent_of) found inside)))

-- so does one of them
pub groups_lie : (doc : Doc) (lead : List Datum) (found : List (Option Span)) → All (IsOfDocument doc) lead → All (IsFoundIn doc) found → All (IsOfDocument doc) (lead ++ map group_value (extents_of found))
groups_lie doc lead found lies inside =
    All-append (IsOfDocument doc) lead (map group_value (extents_of found)) lies
    (All-map (IsOfDocument doc) group_value (extents_of found) (All-map (λ (e : Option Extent). IsOfDocument doc (group_value e)) (option_map extent_of) found inside))

-- what a search puts, cut into rows: one for each match
pub rows_cut : (lists : Lists) (doc : Doc) (e : Extraction) (row : List Datum) (found : List (Option Span)) (number : ℕ)
    → PutsRows (found_in lists doc e row) [] (extents_of found) number → cut_rows number (found_width e) (extents_of found) ≡ found_in lists doc e row
rows_cut lists doc e row found number put =
    ap₂ (λ n xs. cut_rows n (found_width e) xs) put.0 put.1 ∙ cut_again (found_width e) (found_in lists doc e row) (found-wide lists doc e row)

pub number_cut : (lists : Lists) (doc : Doc) (e : Extraction) (row : List Datum) (found : List (Option Span)) (number : ℕ)
    → PutsRows (found_in lists doc e row) [] (extents_of found) number → length found ≡ number * found_width e
number_cut lists doc e row found number put =
    sym (length-map found (option_map extent_of)) ∙ (ap length put.1 ∙ (entries_of (found_width e) (found_in lists doc e row) (found-wide lists doc e row)
    ∙ ap (λ n. n * found_width e) (sym put.0)))

-- so the rows that are put for a row
pub puts_found : (lists : Lists) (doc : Doc) (e : Extraction) (row lead : List Datum) (found : List (Option Span)) (number w : ℕ) (before after : RowList)
    → PutsRows (found_in lists doc e row) [] (extents_of found) number → w ≡ found_width e
    → after ≡ record { width = before.width; rows = before.rows ++ map (λ groups. lead ++ map group_value groups) (cut_rows number w (extents_of found)) }
    → after ≡ record { width = before.width; rows = before.rows ++ map (λ groups. lead ++ map group_value groups) (found_in lists doc e row) }
puts_found lists doc e row lead found number w before after put is_width is =
    let list : List (List (Option Extent)) → RowList = λ rows. record { width = before.width; rows = before.rows ++ map (λ groups. lead ++ map group_value groups) rows } in
    is ∙ (ap (λ (w : ℕ). list (cut_rows number w (extents_of found))) is_width ∙ ap list (rows_cut lists doc e row found number put))

pub puts_lying : (doc : Doc) (lead : List Datum) (found : List (Option Span)) (number w : ℕ) (before after : RowList)
    → after ≡ record { width = before.width; rows = before.rows ++ map (λ groups. lead ++ map group_value groups) (cut_rows number w (extents_of found)) }
    → All (IsOfDocument doc) lead → All (IsFoundIn doc) found → RowsLieIn doc before.rows → RowsLieIn doc after.rows
puts_lying doc lead found number w before after is lies inside old =
    subst (λ (list : RowList). RowsLieIn doc list.rows) (sym is)
    (All-append (All (IsOfDocument doc)) before.rows (map (λ groups. lead ++ map group_value groups) (cut_rows number w (extents_of found))) old (cut_lies doc lead number w found lies inside))
