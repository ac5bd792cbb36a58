-- Rows that stand one after another, cut apart again.
use Rattle.std.proofs.Common.{◌≡◌, ℕ, zero, suc, ◌++◌, ◌+◌, ◌≤◌, min, List, [], ◌∷◌, map, length, take, drop, Option, Some, None, option_map, refl, sym, ap, ap₂, ◌∙◌, inl, inr, append_assoc, arith}
use Rattle.std.specs.List.{cons_option, filter_map, flat_map, range_with_len}
use Rattle.std.specs.Option.{option_or}
use Rattle.std.proofs.lemmas.Bool.{cases_lt}
use Rattle.std.proofs.lemmas.List.{length-map, take_all, take_at, drop_at}
use Rattle.std.proofs.lemmas.Option.{none-some, same_Some}
use Rattle.regex.specs.Patterns.{Match}
use Rattle.span_token.specs.Documents.{Doc, text_in}
use Rattle.span_token.specs.Extents.{Extent}
use Rattle.span_token.specs.SourceTokens.{tokens_in}
use Rattle.aql_regex_extract.specs.Matches.{first_match, row_of}
use Rattle.aql_regex_extract.specs.Patterns.{whole_form}
use Rattle.aql_regex_extract.specs.Steps.{cut_rows}
use Rattle.aql_regex_extract.specs.TokenRuns.{run_at, whole_row, longest_row, run_row, run_rows}

-- one row more from the front
pub cut-step : {X : Type 0} (rows : List (List X)) (left w : ℕ) (xs row others : List X) → row ≡ take w xs → others ≡ drop w xs →
    (rows ++ row ∷ []) ++ cut_rows left w others ≡ rows ++ cut_rows (suc left) w xs
cut-step rows left w xs row others is_row is_rest =
    append_assoc rows (row ∷ []) (cut_rows left w others) ∙ ap (λ r. rows ++ r) (ap₂ (λ a b. a ∷ cut_rows left w b) is_row is_rest)

cut-cons : {X : Type 0} (w : ℕ) (row : List X) (rows : List (List X)) → length row ≡ w →
    cut_rows (length rows) w (flat_map (λ r. r) rows) ≡ rows → cut_rows (length (row ∷ rows)) w (flat_map (λ r. r) (row ∷ rows)) ≡ row ∷ rows
cut-cons w row rows long h =
    let rest = flat_map (λ r. r) rows in
    ap₂ (λ a b. a ∷ cut_rows (length rows) w b) (take_at row rest w long) (drop_at row rest w long) ∙ ap (λ b. row ∷ b) h

-- the rows that a function of one width gives
pub cut-map : {A X : Type 0} (f : A → List X) (w : ℕ) → ((a : A) → length (f a) ≡ w) → (items : List A) →
    cut_rows (length (map f items)) w (flat_map (λ r. r) (map f items)) ≡ map f items
cut-map f w wide [] = refl
cut-map f w wide (a ∷ items) = cut-cons w (f a) (map f items) (wide a) (cut-map f w wide items)

cut-option : {X : Type 0} (w : ℕ) (o : Option (List X)) (rows : List (List X)) → ((row : List X) → o ≡ Some row → length row ≡ w) →
    cut_rows (length rows) w (flat_map (λ r. r) rows) ≡ rows →
    cut_rows (length (cons_option o rows)) w (flat_map (λ r. r) (cons_option o rows)) ≡ cons_option o rows
cut-option w None rows wide h = h
cut-option w (Some row) rows wide h = cut-cons w row rows (wide row refl) h

cut-chosen : {X : Type 0} (f : ℕ → Option (List X)) (w : ℕ) → ((i : ℕ) (row : List X) → f i ≡ Some row → length row ≡ w) → (numbers : List ℕ) →
    cut_rows (length (filter_map f numbers)) w (flat_map (λ r. r) (filter_map f numbers)) ≡ filter_map f numbers
cut-chosen f w wide [] = refl
cut-chosen f w wide (i ∷ numbers) = cut-option w (f i) (filter_map f numbers) (wide i) (cut-chosen f w wide numbers)

-- ---- the rows of token runs have one width

row-wide : (d : Doc) (e : Extent) (groups : List ℕ) (o : Option Match) (row : List (Option Extent)) → option_map (row_of d e groups) o ≡ Some row →
    length row ≡ length groups
row-wide d e groups None row is = absurd (none-some _ is)
row-wide d e groups (Some m) row is = ap length (sym (same_Some _ _ is)) ∙ length-map groups _

or-wide : {X : Type 0} (w : ℕ) (here rest : Option (List X)) → ((row : List X) → here ≡ Some row → length row ≡ w) →
    ((row : List X) → rest ≡ Some row → length row ≡ w) → (row : List X) → option_or here rest ≡ Some row → length row ≡ w
or-wide w None rest a b row is = b row is
or-wide w (Some r) rest a b row is = a row is

longest-wide : (rows : ℕ → Option (List (Option Extent))) (w : ℕ) → ((k : ℕ) (row : List (Option Extent)) → rows k ≡ Some row → length row ≡ w) →
    (low n : ℕ) (row : List (Option Extent)) → longest_row rows low n ≡ Some row → length row ≡ w
longest-wide rows w wide low zero row is = absurd (none-some _ is)
longest-wide rows w wide low (suc n) row is =
    or-wide w (rows (low + n)) (longest_row rows low n) (wide (low + n)) (longest-wide rows w wide low n) row is

pub cut-runs : (pattern : List ℕ) (d : Doc) (source : Extent) (low high : ℕ) (groups : List ℕ) →
    cut_rows (length (run_rows pattern d source low high groups)) (length groups) (flat_map (λ r. r) (run_rows pattern d source low high groups))
    ≡ run_rows pattern d source low high groups
unfolding run_rows
cut-runs pattern d source low high groups =
    let tokens = tokens_in d source in
    cut-chosen (run_row pattern d tokens low high groups) (length groups)
    (λ i row is. longest-wide (λ k. whole_row pattern d groups (run_at tokens i k)) (length groups)
    (λ k r h. row-wide d (run_at tokens i k) groups (first_match (whole_form pattern) (text_in d (run_at tokens i k))) r h)
    low _ row is)
    (range_with_len 0 (length tokens))

-- ---- a row that may be shorter than it should

pub take-most : {X : Type 0} (w n : ℕ) (xs : List X) → n ≡ min w (length xs) → take n xs ≡ take w xs
take-most w n xs is = elim (cases_lt w (length xs)) [
  | inl lt ↦ let same : n ≡ w = omega (arith, is) in ap (λ k. take k xs) same
  | inr ge ↦ take_all n xs (omega (arith, is)) ∙ sym (take_all w xs ge)
]

drop_all : {X : Type 0} (n : ℕ) (xs : List X) → length xs ≤ n → drop n xs ≡ []
drop_all zero [] le = refl
drop_all zero (x ∷ xs) le = absurd (omega (arith, le))
drop_all (suc n) [] le = refl
drop_all (suc n) (x ∷ xs) le = drop_all n xs (omega (arith, le))

pub drop-most : {X : Type 0} (w n : ℕ) (xs : List X) → n ≡ min w (length xs) → drop n xs ≡ drop w xs
drop-most w n xs is = elim (cases_lt w (length xs)) [
  | inl lt ↦ let same : n ≡ w = omega (arith, is) in ap (λ k. drop k xs) same
  | inr ge ↦ drop_all n xs (omega (arith, is)) ∙ sym (drop_all w xs ge)
]
