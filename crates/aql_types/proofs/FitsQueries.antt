-- Queries without a fault fit, have as many columns as they give, and no two of one name.
use Rattle.std.proofs.Common.{◌≡◌, ◌∙◌, ◌+◌, ◌<◌, ◌≤◌, ℕ, suc, slice_index_or, Bool, true, false, if◌then◌else◌, List, [], ◌∷◌, ◌++◌, map, length, refl, ap, ap₂, sym, subst, arith, append_assoc}
use Rattle.std.specs.Str.{bytes_eq}
use Rattle.std.proofs.lemmas.Bool.{and_parts, false≢true}
use Rattle.std.proofs.Math.Seq.{get_or-append_seam}
use Rattle.std.proofs.lemmas.List.{length-append, length-map}
use Rattle.row_values.specs.Outputs.{HasDistinctNames}
use Rattle.aql_syntax.specs.Trees.{Query, select, extract, union, minus, Queries, no_queries, more_queries, Source, view, nested, Sources, no_sources, more_sources}
use Rattle.aql_typed.specs.Fitting.{width_of, first_width, source_width, all_widths, Fits, SidesFit, SourceFits, AllSourcesFit}
use Rattle.aql_typed.specs.Trees as tree
use Rattle.aql_typed.specs.declared.tree.Column.{Column}
use Rattle.clause_types.specs.declared.fault.TypeRule.TheVariants.{DuplicateColumn, SchemaMismatch}
use Rattle.clause_types.specs.Extractions.{names_found, items_extracted, found_faults}
use Rattle.aql_types.specs.QueryTypings.{row_of_one, QueryTyping, SourceTyping, visible_in, faults_of_sources, bodies_of, duplicate_aliases, row_of}
use Rattle.clause_types.specs.Items.{names_of_items}
use Rattle.clause_types.specs.Known.{Known}
use Rattle.aql_types.specs.Queries.{View, view_named, same_column, same_columns, faults_of_sides, mismatch, mismatches, mismatched, first_columns, typing_of_query, typings_of_queries, typing_of_source, typings_of_sources}
use Rattle.clause_types.specs.Selections.{rows_faults, items_typed}
use Rattle.clause_types.specs.FaultlessLaws.{both_none, unbroken}
use Rattle.aql_types.proofs.FitsNames.{names_in, no_duplicate, names_of_columns, names_given}
use Rattle.clause_types.specs.ReadingLaws.{row_width, ScopeReads}
use Rattle.clause_types.specs.SelectionLaws.{rows_wide, rows_fit, names_once, rows_read}
use Rattle.clause_types.specs.ExtractionLaws.{extract_wide, spec_sound, found_once, extraction_fits, extract_reads}

-- the numbers of columns of some views
abbrev pub widths_in : List View → List ℕ
widths_in views = map (λ v. length v.columns) views

-- a view's name stands for the document, or for a view of a lower number
named_fits : (widths : List ℕ) (name : List ℕ) (number : ℕ) (views : List View) → length widths ≡ number + length views
    → SourceFits widths (view_named name number views).body
named_fits widths name number [] long = tt
named_fits widths name number (v ∷ views) long =
    by (bytes_eq v.name name) (omega (arith, long)) (named_fits widths name (suc number) views (omega (arith, long)))
  where
    by : (b : Bool) → number < length widths → SourceFits widths (view_named name (suc number) views).body
        → SourceFits widths (if b then record { columns = v.columns; body = tree.view number } else view_named name (suc number) views).body
    by true here later = here
    by false here later = later

-- and has as many columns as are known of it, where those in front of the views that are looked through are `front`
named_wide : (widths front : List ℕ) (name : List ℕ) (number : ℕ) (views : List View) → front ++ widths_in views ≡ widths → length front ≡ number
    → source_width widths (view_named name number views).body ≡ length (view_named name number views).columns
named_wide widths front name number [] are counted = refl
named_wide widths front name number (v ∷ views) are counted =
    by (bytes_eq v.name name)
    (named_wide widths (front ++ length v.columns ∷ []) name (suc number) views
    (append_assoc front (length v.columns ∷ []) (widths_in views) ∙ are)
    (length-append front (length v.columns ∷ []) ∙ omega (arith, counted)))
  where
    by : (b : Bool) → source_width widths (view_named name (suc number) views).body ≡ length (view_named name (suc number) views).columns
        → source_width widths (if b then record { columns = v.columns; body = tree.view number } else view_named name (suc number) views).body
        ≡ length (if b then record { columns = v.columns; body = tree.view number } else view_named name (suc number) views).columns
    by true later =
        sym (ap₂ (λ (ws : List ℕ) (n : ℕ). slice_index_or ws n 0) are counted)
        ∙ get_or-append_seam front (length v.columns) (widths_in views) 0
    by false later = later

-- equal columns are equally many
as_wide : (columns others : List Column) → same_columns columns others ≡ true → length others ≡ length columns
as_wide [] [] h = refl
as_wide [] (d ∷ others) h = absurd (false≢true h)
as_wide (c ∷ columns) [] h = absurd (false≢true h)
as_wide (c ∷ columns) (d ∷ others) h =
    let p = and_parts (same_column c d) (same_columns columns others) h in
    ap suc (as_wide columns others p.1)

-- a side without SchemaMismatch has the first one's columns
side_as_wide : (side later : QueryTyping) → mismatch side later ≡ []
    → length later.columns ≡ length side.columns
side_as_wide side later h = as_wide side.columns later.columns (unbroken (same_columns side.columns later.columns) later.at SchemaMismatch h)

as_many : {n m : ℕ} → n ≡ m → m ≤ n
as_many {n} {m} same = omega (arith, same)

module _ (widths : List ℕ) where
  -- a query fits, and has as many columns as are said
  abbrev pub IsFit : QueryTyping → Type 0
  IsFit t = Fits widths t.body × (width_of widths t.body ≡ length t.columns)

  abbrev IsSourceFit : SourceTyping → Type 0
  IsSourceFit s = SourceFits widths s.body × (source_width widths s.body ≡ length s.columns)

  abbrev AreSourcesFit : List SourceTyping → Type 0
  AreSourcesFit ss = AllSourcesFit widths (tree.as_sources (bodies_of ss)) × (all_widths widths (tree.as_sources (bodies_of ss)) ≡ row_width (visible_in ss))

  abbrev AllAreFit : List QueryTyping → Type 0
  AllAreFit [] = Unit {0}
  AllAreFit (t ∷ ts) = IsFit t × AllAreFit ts

  sides_fit : (first : QueryTyping) (sides : List QueryTyping) → AllAreFit sides
      → mismatches first sides ≡ []
      → (width : ℕ) → width ≡ length first.columns
      → SidesFit widths width (tree.as_queries (map (λ t. t.body) sides))
  sides_fit first [] fit h width is = tt
  sides_fit first (side ∷ sides) fit h width is =
      let p = both_none (mismatch first side) (mismatches first sides) h in
      (fit.0.0, fit.0.1 ∙ (side_as_wide first side p.0 ∙ sym is), sides_fit first sides fit.1 p.1 width is)

  union_fits : (sides : List QueryTyping) → AllAreFit sides → mismatched sides ≡ []
      → SidesFit widths (first_width widths (tree.as_queries (map (λ t. t.body) sides))) (tree.as_queries (map (λ t. t.body) sides))
  union_fits [] fit h = tt
  union_fits (side ∷ sides) fit h = (fit.0.0, refl, sides_fit side sides fit.1 h (width_of widths side.body) fit.0.1)

  union_wide : (sides : List QueryTyping) → AllAreFit sides
      → first_width widths (tree.as_queries (map (λ t. t.body) sides)) ≡ length (first_columns sides)
  union_wide [] fit = refl
  union_wide (side ∷ sides) fit = fit.0.1

module _ (known : Known) (below : List View) (widths : List ℕ) (are : widths ≡ widths_in below) where
  long_widths : length widths ≡ 0 + length below
  long_widths =
      let long : length widths ≡ length below = ap length are ∙ length-map below _ in omega (arith, long)

  mutual
    pub query_fits : (q : Query) → (typing_of_query known below q).faults ≡ [] → IsFit widths (typing_of_query known below q)
    query_fits (select at items sources clauses) h =
        let typings = typings_of_sources known below sources in
        let row = row_of typings in
        let p = both_none (faults_of_sources typings) (duplicate_aliases typings ++ rows_faults known row items clauses) h in
        let q = both_none (duplicate_aliases typings) (rows_faults known row items clauses) p.1 in
        let fit = sources_fit sources p.0 in
        let width = all_widths widths (tree.as_sources (bodies_of typings)) in
        let reads : ScopeReads width row = record { sources = as_many fit.1; names = tt } in
        ((fit.0, rows_fit known row items clauses q.1, rows_read width known row items clauses reads), rows_wide known row items clauses)
    query_fits (extract at items spec source tail) h =
        let typing = typing_of_source known below source in
        let row = row_of_one typing in
        let p = both_none typing.faults (found_faults known row items spec tail) h in
        let fit = source_fits source p.0 in
        let width = source_width widths typing.body in
        let wide : width ≡ row_width row.sources = fit.1 ∙ omega arith in
        let reads : ScopeReads width row = record { sources = as_many wide; names = tt } in (
          (
            fit.0,
            extraction_fits known row items spec tail (spec_sound known row items spec tail p.1),
            extract_reads known row items spec tail p.1 width reads,
          ),
          extract_wide known row items spec tail,
        )
    query_fits (union sides) h =
        let typings = typings_of_queries known below sides in
        let p = both_none (faults_of_sides typings) (mismatched typings) h in
        let fit = queries_fit sides p.0 in
        (union_fits widths typings fit p.1, union_wide widths typings fit)
    query_fits (minus left right) h =
        let a = typing_of_query known below left in
        let b = typing_of_query known below right in
        let p = both_none (faults_of_sides (a ∷ b ∷ [])) (mismatched (a ∷ b ∷ [])) h in
        let q = both_none a.faults (b.faults ++ []) p.0 in
        let r = both_none b.faults [] q.1 in
        let one = query_fits left q.0 in
        let other = query_fits right r.0 in
        let same = both_none (mismatch a b) [] p.1 in
        ((one.0, other.0, other.1 ∙ (side_as_wide a b same.0 ∙ sym one.1)), one.1)

    queries_fit : (qs : Queries) → faults_of_sides (typings_of_queries known below qs) ≡ [] → AllAreFit widths (typings_of_queries known below qs)
    queries_fit no_queries h = tt
    queries_fit (more_queries query queries) h =
        let p = both_none (typing_of_query known below query).faults (faults_of_sides (typings_of_queries known below queries)) h in
        (query_fits query p.0, queries_fit queries p.1)

    source_fits : (s : Source) → (typing_of_source known below s).faults ≡ [] → IsSourceFit widths (typing_of_source known below s)
    source_fits (view name alias) h = (named_fits widths name.text 0 below long_widths, named_wide widths [] name.text 0 below (sym are) refl)
    source_fits (nested query alias) h = query_fits query h

    sources_fit : (ss : Sources) → faults_of_sources (typings_of_sources known below ss) ≡ [] → AreSourcesFit widths (typings_of_sources known below ss)
    sources_fit no_sources h = (tt, refl)
    sources_fit (more_sources source sources) h =
        let p = both_none (typing_of_source known below source).faults (faults_of_sources (typings_of_sources known below sources)) h in
        let one = source_fits source p.0 in
        let more = sources_fit sources p.1 in
        ((one.0, more.0), ap₂ ◌+◌ one.1 more.1)

-- no two columns of one name
abbrev pub AreNamed : List Column → Type 0
AreNamed columns = HasDistinctNames (names_in columns)

module _ (known : Known) (below : List View) where
  mutual
    pub query_named : (q : Query) → (typing_of_query known below q).faults ≡ [] → AreNamed (typing_of_query known below q).columns
    query_named (select at items sources clauses) h =
        let typings = typings_of_sources known below sources in
        let row = row_of typings in
        let p = both_none (faults_of_sources typings) (duplicate_aliases typings ++ rows_faults known row items clauses) h in
        let q = both_none (duplicate_aliases typings) (rows_faults known row items clauses) p.1 in
        let typed = items_typed known row items clauses in
        subst (λ (names : List (List ℕ)). HasDistinctNames names) (sym (names_of_columns typed))
        (no_duplicate DuplicateColumn (names_of_items typed) (names_once known row items clauses q.1))
    query_named (extract at items spec source tail) h =
        let typing = typing_of_source known below source in
        let row = row_of_one typing in
        let p = both_none typing.faults (found_faults known row items spec tail) h in
        let typed = items_extracted known row items spec tail in
        subst (λ (names : List (List ℕ)). HasDistinctNames names) (sym (names_given typed (names_found spec)))
        (no_duplicate DuplicateColumn (names_of_items typed ++ names_found spec) (found_once known row items spec tail p.1))
    query_named (union sides) h =
        let typings = typings_of_queries known below sides in
        first_named sides (both_none (faults_of_sides typings) (mismatched typings) h).0
    query_named (minus left right) h =
        let a = typing_of_query known below left in
        let b = typing_of_query known below right in
        let p = both_none (faults_of_sides (a ∷ b ∷ [])) (mismatched (a ∷ b ∷ [])) h in
        query_named left (both_none a.faults (b.faults ++ []) p.0).0

    first_named : (qs : Queries) → faults_of_sides (typings_of_queries known below qs) ≡ [] → AreNamed (first_columns (typings_of_queries known below qs))
    first_named no_queries h = λ i j d less within. absurd (omega (arith, within))
    first_named (more_queries query queries) h =
        query_named query (both_none (typing_of_query known below query).faults (faults_of_sides (typings_of_queries known below queries)) h).0
