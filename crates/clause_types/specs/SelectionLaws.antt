-- A selection without a fault gives as many columns as its projection; its keys and columns are there, and so are the
-- columns that its expressions read.
use Rattle.std.proofs.Common.{◌≡◌, ◌∙◌, ◌+◌, ◌<◌, ◌≤◌, ℕ, suc, Bool, true, false, ◌||◌, if◌then◌else◌, List, [], ◌∷◌, ◌++◌, map, length, All, refl, ap, sym, subst, arith}
use Rattle.std.proofs.lemmas.Bool.{ltb-true}
use Rattle.std.proofs.lemmas.List.{length-append, length-map}
use Rattle.std.proofs.lemmas.List.Elements.{All-nil, All-cons, All-head, All-tail, All-append}
use Rattle.group_agg.specs.Groups.{HasKey, HasColumn}
use Rattle.aql_syntax.specs.Trees.{Term, Item, Clauses}
use Rattle.aql_typed.specs.Trees as tree
use Rattle.aql_typed.specs.Fitting.{projection_width, FitsProjection, FitsSelect, projected_terms, SelectReads}
use Rattle.scalar_ops.specs.Expressions as expressed
use Rattle.scalar_ops.specs.Expressions.{ReadsBelow}
use Rattle.scalar_ops.specs.declared.kind.Kind.TheVariants as kind
use Rattle.clause_types.specs.declared.fault.Breach.{Breach}
use Rattle.clause_types.specs.declared.fault.TypeRule.TheVariants.{NotGrouped, UnknownColumn}
use Rattle.clause_types.specs.declared.function.Aggregate.{Aggregate}
use Rattle.clause_types.specs.declared.function.Aggregate.TheVariants as aggregate
use Rattle.clause_types.specs.Clauses.{is_aggregate, not_grouped, ungrouped, name_kept, no_item, key_faults, order_faults, orders_faults, each_faults, consolidation_faults, bad_limit, terms_of}
use Rattle.clause_types.specs.Items.{at_of, faults_of_items, duplicate_columns, names_of_items, columns_of_items}
use Rattle.clause_types.specs.Keys.{key_number, is_key, item_number, has_item}
use Rattle.clause_types.specs.Known.{Known}
use Rattle.clause_types.specs.Scopes.{Scope}
use Rattle.clause_types.specs.Selections.{groups, arguments_in, arguments_of, agg_of, agg_in, aggs_of, plain_term, plain_terms, grouped_faults, projection_by, clause_faults, rows_faults, rows_clauses, items_typed, item_scope}
use Rattle.clause_types.specs.Typings.{Content, expression, row_count, aggregated, ItemTyping, column_of_item}
use Rattle.clause_types.specs.FaultlessLaws.{both_none, unbroken}
use Rattle.clause_types.specs.ReadingLaws.{ContentReads, ItemReads, ScopeReads, terms_read, target_reads, select_items_read}

-- an aggregate of a column names no key
aggregate_key : (keys : ℕ) (a : Aggregate) (column : ℕ) → HasKey keys (agg_of a column)
aggregate_key keys aggregate.Count column = tt
aggregate_key keys aggregate.Sum column = tt
aggregate_key keys aggregate.Min column = tt
aggregate_key keys aggregate.Max column = tt

aggregate_column : (width : ℕ) (a : Aggregate) (column : ℕ) → column < width → HasColumn width (agg_of a column)
aggregate_column width aggregate.Count column h = h
aggregate_column width aggregate.Sum column h = h
aggregate_column width aggregate.Min column h = h
aggregate_column width aggregate.Max column h = h

module _ (items : List Item) (keys : List Term) where
  -- an item that is no aggregate equals a key
  one_key : (column : ℕ) (item : Item) (at : ℕ) (content : Content)
      → (is_aggregate content || is_key items keys item) ≡ true → HasKey (length keys) (agg_in (key_number items keys item) column content)
  one_key column item at (expression meant) h = ltb-true (key_number items keys item) (length keys) h
  one_key column item at row_count h = tt
  one_key column item at (aggregated a meant) h = aggregate_key (length keys) a column

  has_keys : (column : ℕ) (more : List Item) (typed : List ItemTyping) → not_grouped items keys more typed ≡ []
      → All (HasKey (length keys)) (aggs_of items keys column more typed)
  has_keys column [] [] h = All-nil (HasKey (length keys))
  has_keys column [] (t ∷ typed) h = All-nil (HasKey (length keys))
  has_keys column (item ∷ more) [] h = All-nil (HasKey (length keys))
  has_keys column (item ∷ more) (t ∷ typed) h =
      let p = both_none (ungrouped items keys item t) (not_grouped items keys more typed) h in
      let next = column + length (arguments_in t.content) in
      All-cons (HasKey (length keys)) (agg_in (key_number items keys item) column t.content) (aggs_of items keys next more typed)
      (one_key column item t.at t.content (unbroken (is_aggregate t.content || is_key items keys item) t.at NotGrouped p.0))
      (has_keys next more typed p.1)

  -- each aggregate's argument stands behind those before it
  one_column : (width column key : ℕ) (content : Content) → column + length (arguments_in content) ≤ width → HasColumn width (agg_in key column content)
  one_column width column key (expression meant) h = tt
  one_column width column key row_count h = tt
  one_column width column key (aggregated a meant) h = aggregate_column width a column (omega (arith, h))

  has_columns : (width column : ℕ) (more : List Item) (typed : List ItemTyping) → column + length (arguments_of typed) ≤ width
      → All (HasColumn width) (aggs_of items keys column more typed)
  has_columns width column [] [] h = All-nil (HasColumn width)
  has_columns width column [] (t ∷ typed) h = All-nil (HasColumn width)
  has_columns width column (item ∷ more) [] h = All-nil (HasColumn width)
  has_columns width column (item ∷ more) (t ∷ typed) h =
      let next = column + length (arguments_in t.content) in
      let long : length (arguments_in t.content ++ arguments_of typed) ≡ length (arguments_in t.content) + length (arguments_of typed) =
      length-append (arguments_in t.content) (arguments_of typed) in
      All-cons (HasColumn width) (agg_in (key_number items keys item) column t.content) (aggs_of items keys next more typed)
      (one_column width column (key_number items keys item) t.content (omega (arith, h, long)))
      (has_columns width next more typed (omega (arith, h, long)))

  -- one aggregate an item
  as_many : (column : ℕ) (more : List Item) (typed : List ItemTyping) → length typed ≡ length more → length (aggs_of items keys column more typed) ≡ length more
  as_many column [] [] h = refl
  as_many column [] (t ∷ typed) h = absurd (omega (arith, h))
  as_many column (item ∷ more) [] h = absurd (omega (arith, h))
  as_many column (item ∷ more) (t ∷ typed) h =
      ap suc (as_many (column + length (arguments_in t.content)) more typed (omega (arith, h)))

  module _ (terms : List expressed.Term) (typed : List ItemTyping) (each : length terms ≡ length keys) where
    grouped_fits : not_grouped items keys items typed ≡ []
        → FitsProjection (tree.grouped_by terms (arguments_of typed) (aggs_of items keys (length keys) items typed))
    grouped_fits h = (
      subst (λ n. All (HasKey n) (aggs_of items keys (length keys) items typed)) (sym each) (has_keys (length keys) items typed h),
      has_columns (length (terms ++ arguments_of typed)) (length keys) items typed
          (let long : length (terms ++ arguments_of typed) ≡ length terms + length (arguments_of typed) = length-append terms (arguments_of typed) in omega (arith, long, each)),
    )

    pub projection_fits : grouped_faults items typed keys ≡ [] → FitsProjection (projection_by terms items typed keys)
    projection_fits h = by (groups keys typed) h
      where
        by : (b : Bool) → (if b then not_grouped items keys items typed else []) ≡ []
            → FitsProjection (if b then tree.grouped_by terms (arguments_of typed) (aggs_of items keys (length keys) items typed) else tree.plain (plain_terms typed))
        by true h = grouped_fits h
        by false h = tt

  pub projection_wide : (terms : List expressed.Term) (typed : List ItemTyping) → length typed ≡ length items
      → projection_width (projection_by terms items typed keys) ≡ length items
  projection_wide terms typed long = by (groups keys typed)
    where
      by : (b : Bool) → projection_width (if b then tree.grouped_by terms (arguments_of typed) (aggs_of items keys (length keys) items typed) else tree.plain (plain_terms typed)) ≡ length items
      by true = as_many (length keys) items typed long
      by false = length-map typed _ ∙ long

  -- an `order by` key is an item
  order_within : (known : Known) (scope : Scope) (order : List Term) → orders_faults known scope items order ≡ []
      → All (λ column. column < length items) (map (item_number items) order)
  order_within known scope [] h = All-nil (λ column. column < length items)
  order_within known scope (key ∷ order) h =
      let p = both_none (order_faults known scope items key) (orders_faults known scope items order) h in
      let q = both_none (key_faults known scope key) (no_item items key) p.0 in
      All-cons (λ column. column < length items) (item_number items key) (map (item_number items) order)
      (ltb-true (item_number items key) (length items) (unbroken (has_item items key) (at_of key) (UnknownColumn (name_kept key)) q.1))
      (order_within known scope order p.1)

module _ (known : Known) (row : Scope) (items : List Item) (clauses : Clauses) where
  long_typed : length (items_typed known row items clauses) ≡ length items
  long_typed = length-map items _

  -- its columns are as many as its items
  pub rows_wide : projection_width (rows_clauses known row items clauses).projection ≡ length (columns_of_items (items_typed known row items clauses))
  rows_wide =
      projection_wide items clauses.group (terms_of known (item_scope known row items clauses) clauses.group) (items_typed known row items clauses) long_typed
      ∙ sym (length-map (items_typed known row items clauses) column_of_item ∙ long_typed)

  -- what the faults of its rows are made of
  module _ (none : rows_faults known row items clauses ≡ []) where
    abbrev scope : Scope
    scope = item_scope known row items clauses

    abbrev typed : List ItemTyping
    typed = items_typed known row items clauses

    after_items : duplicate_columns (names_of_items typed) ++ clause_faults known row scope items typed clauses ≡ []
    after_items = (both_none (faults_of_items typed) (duplicate_columns (names_of_items typed) ++ clause_faults known row scope items typed clauses) none).1

    pub names_once : duplicate_columns (names_of_items typed) ≡ []
    names_once = (both_none (duplicate_columns (names_of_items typed)) (clause_faults known row scope items typed clauses) after_items).0

    abbrev from_order : List Breach
    from_order = orders_faults known scope items clauses.order ++ bad_limit clauses.limit

    from_grouping : grouped_faults items typed clauses.group ++ from_order ≡ []
    from_grouping =
        let clauses_none = (both_none (duplicate_columns (names_of_items typed)) (clause_faults known row scope items typed clauses) after_items).1 in
        let after_conds = (both_none (each_faults known row kind.Boolean clauses.conds) _ clauses_none).1 in
        let after_cons = (both_none (consolidation_faults known scope clauses.cons) _ after_conds).1 in
        (both_none (each_faults known scope kind.Any clauses.group) (grouped_faults items typed clauses.group ++ from_order) after_cons).1

    pub rows_fit : FitsSelect (rows_clauses known row items clauses)
    rows_fit =
        let terms = terms_of known scope clauses.group in
        let p = both_none (grouped_faults items typed clauses.group) from_order from_grouping in
        let q = both_none (orders_faults known scope items clauses.order) (bad_limit clauses.limit) p.1 in
        let wide : projection_width (projection_by terms items typed clauses.group) ≡ length items = projection_wide items clauses.group terms typed long_typed in (
          projection_fits items clauses.group terms typed (length-map clauses.group _) p.0,
          subst (λ (n : ℕ). All (λ column. column < n) (map (item_number items) clauses.order)) (sym wide) (order_within items clauses.group known scope clauses.order q.0),
        )

-- ---- what it reads

module _ (width : ℕ) where
  value_reads : (content : Content) → ContentReads width content → ReadsBelow width (plain_term content)
  value_reads (expression meant) h = h
  value_reads row_count h = All-nil (λ n. n < width)
  value_reads (aggregated a meant) h = All-nil (λ n. n < width)

  pub values_read : (typed : List ItemTyping) → All (ItemReads width) typed → All (ReadsBelow width) (plain_terms typed)
  values_read [] h = All-nil (ReadsBelow width)
  values_read (t ∷ typed) h =
      All-cons (ReadsBelow width) (plain_term t.content) (plain_terms typed)
      (value_reads t.content (All-head (ItemReads width) t typed h))
      (values_read typed (All-tail (ItemReads width) t typed h))

  argument_reads : (content : Content) → ContentReads width content → All (ReadsBelow width) (arguments_in content)
  argument_reads (expression meant) h = All-nil (ReadsBelow width)
  argument_reads row_count h = All-nil (ReadsBelow width)
  argument_reads (aggregated a meant) h = All-cons (ReadsBelow width) _ [] h (All-nil (ReadsBelow width))

  arguments_read : (typed : List ItemTyping) → All (ItemReads width) typed → All (ReadsBelow width) (arguments_of typed)
  arguments_read [] h = All-nil (ReadsBelow width)
  arguments_read (t ∷ typed) h =
      All-append (ReadsBelow width) (arguments_in t.content) (arguments_of typed)
      (argument_reads t.content (All-head (ItemReads width) t typed h))
      (arguments_read typed (All-tail (ItemReads width) t typed h))

  projection_reads : (terms : List expressed.Term) (items : List Item) (typed : List ItemTyping) (keys : List Term)
      → All (ReadsBelow width) terms → All (ItemReads width) typed
      → All (ReadsBelow width) (projected_terms (projection_by terms items typed keys))
  projection_reads terms items typed keys own each = by (groups keys typed)
    where
      by : (b : Bool)
          → All (ReadsBelow width) (projected_terms (if b then tree.grouped_by terms (arguments_of typed) (aggs_of items keys (length keys) items typed) else tree.plain (plain_terms typed)))
      by true = All-append (ReadsBelow width) terms (arguments_of typed) own (arguments_read typed each)
      by false = values_read typed each

  -- in the scope of its row it reads columns of the row; so does a bare name that stands for an item
  pub rows_read : (known : Known) (row : Scope) (items : List Item) (clauses : Clauses) → ScopeReads width row
      → SelectReads width (rows_clauses known row items clauses)
  rows_read known row items clauses reads =
      let each : All (ItemReads width) (items_typed known row items clauses) = select_items_read width known row reads items in
      let own : ScopeReads width (item_scope known row items clauses) = record { sources = reads.sources; names = each } in
      record {
        conds = terms_read width known row reads clauses.conds;
        target = target_reads width known (item_scope known row items clauses) own clauses.cons;
        items =
            projection_reads (terms_of known (item_scope known row items clauses) clauses.group) items (items_typed known row items clauses) clauses.group
            (terms_read width known (item_scope known row items clauses) own clauses.group)
            each;
      }
