-- What a query means goes by the views that it names, and, as a bag, by their bags: the order of a source's rows counts
-- for nothing. What a view means stands on the views before it alone.
use Rattle.std.proofs.Common.{◌≡◌, ◌∙◌, ℕ, ◌+◌, ◌<◌, List, [], ◌∷◌, ◌++◌, Option, Some, None, map, length, refl, sym, ap, ap₂, append_assoc, slice_index_or}
use Rattle.std.specs.List.{filter_map, cons_option, flat_map, range_with_len}
use Rattle.std.specs.Prelude.{option_to_list}
use Rattle.aql_base.specs.Bags.{SameBag}
use Rattle.aql_base.specs.BagLaws.{SameBag-refl, SameBag-sym, SameBag-trans, SameBag-is, SameBag-append, SameBag-map, SameBag-filter, SameBag-flat_map}
use Rattle.span_token.specs.Documents.{Doc}
use Rattle.row_values.specs.Datums.{Datum, span_of}
use Rattle.row_values.specs.Rows.{span_in, sorted, product, minus as without}
use Rattle.row_values.specs.RowBags.{SameBag-product, SameBag-minus}
use Rattle.span_sets.specs.Blocks.{is_neighbour, IsNeighbour}
use Rattle.span_sets.specs.Laws.{consolidated-SameBag, blocks_of-SameBag, is_neighbour-decides}
use Rattle.group_agg.specs.Laws.{grouped-SameBag, limited-SameBag}
use Rattle.scalar_ops.specs.Expressions.{Term}
use Rattle.scalar_ops.specs.Tables.{Lists}
use Rattle.scalar_ops.specs.Values.{value, holding}
use Rattle.aql_typed.specs.Trees.{Consolidation, Projection, plain, grouped_by, SelectClauses, Extraction, regex, token_regex, dict, blocks, ExtractClauses, Query, select, extract, union, minus, Queries, no_queries, more_queries, Source, document, view, nested, Sources, no_sources, more_sources}
use Rattle.aql_typed.specs.Meaning.{Rows, one_column, cut, row_of, selected, kept, projected, extracted_from, extracted, select_rows, extract_rows, meaning_of, all_sides, source_rows, combinations, meanings_from, meanings}

-- the views that a query names, by their numbers
abbrev mutual
  pub views_named : Query → List ℕ
  views_named (select sources clauses) = views_in_sources sources
  views_named (extract source clauses) = views_in_source source
  views_named (union sides) = views_in_sides sides
  views_named (minus left right) = views_named left ++ views_named right

  pub views_in_sides : Queries → List ℕ
  views_in_sides no_queries = []
  views_in_sides (more_queries side sides) = views_named side ++ views_in_sides sides

  pub views_in_source : Source → List ℕ
  views_in_source document = []
  views_in_source (view n) = n ∷ []
  views_in_source (nested query) = views_named query

  pub views_in_sources : Sources → List ℕ
  views_in_sources no_sources = []
  views_in_sources (more_sources source sources) = views_in_source source ++ views_in_sources sources

-- what holds of each of some views
abbrev pub Each : (ℕ → Type 0) → List ℕ → Type 0
Each P [] = Unit {0}
Each P (n ∷ ns) = P n × Each P ns

each-both : (P : ℕ → Type 0) (ms ns : List ℕ) → Each P (ms ++ ns) → Each P ms × Each P ns
each-both P [] ns each = (tt, each)
each-both P (m ∷ ms) ns each = let rest = each-both P ms ns each.1 in ((each.0, rest.0), rest.1)

-- a list of what may be missing is a flat map
some_of : {X Y : Type 0} (f : X → Option Y) (xs : List X) → filter_map f xs ≡ flat_map (λ x. option_to_list (f x)) xs
some_of f [] = refl
some_of f (x ∷ xs) = by (f x) (ap (λ rest. rest) (some_of f xs))
  where
    by : {Y : Type 0} (o : Option Y) {ys zs : List Y} → ys ≡ zs → cons_option o ys ≡ option_to_list o ++ zs
    by None is = is
    by (Some y) is = ap (λ rest. y ∷ rest) is

SameBag-filter_map : {X Y : Type 0} (f : X → Option Y) (xs ys : List X) → SameBag xs ys → SameBag (filter_map f xs) (filter_map f ys)
SameBag-filter_map f xs ys bag =
    SameBag-trans _ _ _ (SameBag-is _ _ (some_of f xs))
    (SameBag-trans _ _ _ (SameBag-flat_map (λ x. option_to_list (f x)) xs ys bag) (SameBag-is _ _ (sym (some_of f ys))))

module _ (lists : Lists) (doc : Doc) where
  SameBag-selected : (conds : List Term) (rows others : Rows) → SameBag rows others → SameBag (selected lists doc conds rows) (selected lists doc conds others)
  SameBag-selected conds rows others = SameBag-filter (holding lists doc conds) rows others

  SameBag-kept : (c : Option Consolidation) (rows others : Rows) → SameBag rows others → SameBag (kept lists doc c rows) (kept lists doc c others)
  SameBag-kept None rows others bag = bag
  SameBag-kept (Some c) rows others bag =
      SameBag-is _ _ (consolidated-SameBag c.policy (λ row. span_of (value lists doc row c.target)) rows others bag)

  SameBag-projected : (p : Projection) (rows others : Rows) → SameBag rows others → SameBag (projected lists doc p rows) (projected lists doc p others)
  SameBag-projected (plain items) rows others bag = SameBag-map (row_of lists doc items) rows others bag
  SameBag-projected (grouped_by keys arguments aggregates) rows others bag =
      SameBag-is _ _ (ap sorted (grouped-SameBag (range_with_len 0 (length keys)) aggregates (map (row_of lists doc (keys ++ arguments)) rows) (map (row_of lists doc (keys ++ arguments)) others)
      (SameBag-map (row_of lists doc (keys ++ arguments)) rows others bag)))

  SameBag-cut : (order : List ℕ) (limit : Option ℕ) (rows others : Rows) → SameBag rows others → SameBag (cut order limit rows) (cut order limit others)
  SameBag-cut order None rows others bag = bag
  SameBag-cut order (Some n) rows others bag = SameBag-is _ _ (ap sorted (limited-SameBag order (Some n) rows others bag))

  SameBag-extracted : (items : List Term) (e : Extraction) (rows others : Rows) → SameBag rows others → SameBag (extracted lists doc items e rows) (extracted lists doc items e others)
  SameBag-extracted items (regex column p groups) rows others bag = SameBag-flat_map (extracted_from lists doc items (regex column p groups)) rows others bag
  SameBag-extracted items (token_regex column low high p groups) rows others bag =
      SameBag-flat_map (extracted_from lists doc items (token_regex column low high p groups)) rows others bag
  SameBag-extracted items (dict column d) rows others bag = SameBag-flat_map (extracted_from lists doc items (dict column d)) rows others bag
  SameBag-extracted items (blocks column low high from to tokens) rows others bag =
      SameBag-is _ _ (ap one_column (blocks_of-SameBag (is_neighbour doc tokens from to) (IsNeighbour doc tokens from to) (is_neighbour-decides doc tokens from to) low high
      (filter_map (span_in column) rows) (filter_map (span_in column) others) (SameBag-filter_map (span_in column) rows others bag)))

  -- a selection of rows in another order is the same bag
  pub SameBag-select_rows : (clauses : SelectClauses) (rows others : Rows) → SameBag rows others → SameBag (select_rows lists doc clauses rows) (select_rows lists doc clauses others)
  SameBag-select_rows clauses rows others bag =
      SameBag-cut clauses.order clauses.limit _ _ (SameBag-projected clauses.projection _ _ (SameBag-kept clauses.consolidate _ _ (SameBag-selected clauses.conds rows others bag)))

  -- so is an extraction from rows in another order
  pub SameBag-extract_rows : (clauses : ExtractClauses) (rows others : Rows) → SameBag rows others → SameBag (extract_rows lists doc clauses rows) (extract_rows lists doc clauses others)
  SameBag-extract_rows clauses rows others bag =
      SameBag-cut [] clauses.limit _ _ (SameBag-kept clauses.consolidate _ _ (SameBag-selected clauses.conds _ _ (SameBag-extracted clauses.items clauses.extraction rows others bag)))

  module _ (below others : List Rows) where
    -- a view's rows are one bag in both lists
    abbrev pub HasSameBag : ℕ → Type 0
    HasSameBag n = SameBag (slice_index_or below n []) (slice_index_or others n [])

    -- a view's rows are one list in both
    abbrev pub HasSameRows : ℕ → Type 0
    HasSameRows n = slice_index_or below n [] ≡ slice_index_or others n []

    mutual
      -- where each view that a query names has the same bag of rows, the query means the same bag
      pub SameBag-meaning : (q : Query) → Each HasSameBag (views_named q) → SameBag (meaning_of lists doc below q) (meaning_of lists doc others q)
      SameBag-meaning (select sources clauses) same = SameBag-select_rows clauses _ _ (SameBag-combinations sources same)
      SameBag-meaning (extract source clauses) same = SameBag-extract_rows clauses _ _ (SameBag-source source same)
      SameBag-meaning (union sides) same = SameBag-sides sides same
      SameBag-meaning (minus left right) same =
          let both = each-both HasSameBag (views_named left) (views_named right) same in
          SameBag-minus _ _ _ _ (SameBag-meaning left both.0) (SameBag-meaning right both.1)

      SameBag-sides : (sides : Queries) → Each HasSameBag (views_in_sides sides) → SameBag (all_sides lists doc below sides) (all_sides lists doc others sides)
      SameBag-sides no_queries same = SameBag-refl []
      SameBag-sides (more_queries side sides) same =
          let both = each-both HasSameBag (views_named side) (views_in_sides sides) same in
          SameBag-append _ _ _ _ (SameBag-meaning side both.0) (SameBag-sides sides both.1)

      SameBag-source : (s : Source) → Each HasSameBag (views_in_source s) → SameBag (source_rows lists doc below s) (source_rows lists doc others s)
      SameBag-source document same = SameBag-refl _
      SameBag-source (view n) same = same.0
      SameBag-source (nested query) same = SameBag-meaning query same

      SameBag-combinations : (ss : Sources) → Each HasSameBag (views_in_sources ss) → SameBag (combinations lists doc below ss) (combinations lists doc others ss)
      SameBag-combinations no_sources same = SameBag-refl _
      SameBag-combinations (more_sources source sources) same =
          let both = each-both HasSameBag (views_in_source source) (views_in_sources sources) same in
          SameBag-product _ _ _ _ (SameBag-source source both.0) (SameBag-combinations sources both.1)

    mutual
      -- where each view that a query names has the same rows, the query means the same
      pub meaning-below : (q : Query) → Each HasSameRows (views_named q) → meaning_of lists doc below q ≡ meaning_of lists doc others q
      meaning-below (select sources clauses) same = ap (select_rows lists doc clauses) (combinations-below sources same)
      meaning-below (extract source clauses) same = ap (extract_rows lists doc clauses) (source-below source same)
      meaning-below (union sides) same = sides-below sides same
      meaning-below (minus left right) same =
          let both = each-both HasSameRows (views_named left) (views_named right) same in
          ap₂ without (meaning-below left both.0) (meaning-below right both.1)

      sides-below : (sides : Queries) → Each HasSameRows (views_in_sides sides) → all_sides lists doc below sides ≡ all_sides lists doc others sides
      sides-below no_queries same = refl
      sides-below (more_queries side sides) same =
          let both = each-both HasSameRows (views_named side) (views_in_sides sides) same in
          ap₂ ◌++◌ (meaning-below side both.0) (sides-below sides both.1)

      source-below : (s : Source) → Each HasSameRows (views_in_source s) → source_rows lists doc below s ≡ source_rows lists doc others s
      source-below document same = refl
      source-below (view n) same = same.0
      source-below (nested query) same = meaning-below query same

      combinations-below : (ss : Sources) → Each HasSameRows (views_in_sources ss) → combinations lists doc below ss ≡ combinations lists doc others ss
      combinations-below no_sources same = refl
      combinations-below (more_sources source sources) same =
          let both = each-both HasSameRows (views_in_source source) (views_in_sources sources) same in
          ap₂ product (source-below source both.0) (combinations-below sources both.1)

  -- a view more leaves what the views before it mean, and means its query over them
  pub meanings-push : (below : List Rows) (bodies : List Query) (body : Query)
      → meanings_from lists doc below (bodies ++ body ∷ []) ≡ meanings_from lists doc below bodies ++ meaning_of lists doc (meanings_from lists doc below bodies) body ∷ []
  meanings-push below [] body = refl
  meanings-push below (b ∷ bodies) body = meanings-push (below ++ meaning_of lists doc below b ∷ []) bodies body
