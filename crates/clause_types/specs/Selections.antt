-- Selections: the parts in the order of checking, and what a selection is without a fault.
use Rattle.std.specs.Prelude.{ℕ, ◌+◌, Bool, ◌||◌, List, [], ◌∷◌, ◌++◌, map, flat_map, length, nat_lt, if◌then◌else◌}
use Rattle.std.specs.List.{list_any}
use Rattle.aql_syntax.specs.Trees.{Term, Item, Clauses}
use Rattle.aql_typed.specs.Trees as tree
use Rattle.group_agg.specs.declared.agg.Agg.{Agg}
use Rattle.group_agg.specs.declared.agg.Agg.TheVariants as agg
use Rattle.scalar_ops.specs.declared.kind.Kind.TheVariants as kind
use Rattle.scalar_ops.specs.Expressions as expressed
use Rattle.clause_types.specs.declared.fault.Breach.{Breach}
use Rattle.clause_types.specs.declared.function.Aggregate.{Aggregate}
use Rattle.clause_types.specs.declared.function.Aggregate.TheVariants as aggregate
use Rattle.clause_types.specs.Known.{Known}
use Rattle.clause_types.specs.Typings.{term_meant, Content, expression, row_count, aggregated, ItemTyping}
use Rattle.clause_types.specs.Scopes.{names_of_items as stand_for_items, Scope}
use Rattle.clause_types.specs.Items.{duplicate_columns, faults_of_items, names_of_items, select_item}
use Rattle.clause_types.specs.Keys.{key_number, item_number}
use Rattle.clause_types.specs.Clauses.{is_aggregate, not_grouped, bad_limit, limit_of, each_faults, consolidation_faults, orders_faults, terms_of, consolidation_of}

-- a selection groups where it has keys or an aggregate
abbrev pub has_aggregate : List ItemTyping → Bool
has_aggregate items = list_any (λ item. is_aggregate item.content) items

abbrev pub groups : List Term → List ItemTyping → Bool
groups keys items = nat_lt 0 (length keys) || has_aggregate items

-- the arguments of the aggregates, from the left
abbrev pub arguments_in : Content → List expressed.Term
arguments_in (expression meant) = []
arguments_in row_count = []
arguments_in (aggregated a meant) = term_meant meant ∷ []

abbrev pub arguments_of : List ItemTyping → List expressed.Term
arguments_of items = flat_map (λ item. arguments_in item.content) items

-- an aggregate of a column
abbrev pub agg_of : Aggregate → ℕ → Agg
agg_of aggregate.Count column = agg.CountOf column
agg_of aggregate.Sum column = agg.Sum column
agg_of aggregate.Min column = agg.Min column
agg_of aggregate.Max column = agg.Max column

-- an item of a selection that groups: the key with a number, or an aggregate, whose argument has this column
abbrev pub agg_in : ℕ → ℕ → Content → Agg
agg_in key column (expression meant) = agg.Key key
agg_in key column row_count = agg.Count
agg_in key column (aggregated a meant) = agg_of a column

module _ (items : List Item) (keys : List Term) where
  -- the columns of arguments count on from those before them
  abbrev pub aggs_of : ℕ → List Item → List ItemTyping → List Agg
  aggs_of column (item ∷ more) (typed ∷ more_typed) =
      agg_in (key_number items keys item) column typed.content
      ∷ aggs_of (column + length (arguments_in typed.content)) more more_typed
  aggs_of column more typed = []

-- the value of each item
abbrev pub plain_term : Content → expressed.Term
plain_term (expression meant) = term_meant meant
plain_term content = expressed.string []

abbrev pub plain_terms : List ItemTyping → List expressed.Term
plain_terms items = map (λ item. plain_term item.content) items

-- the grouping rule, where the selection groups
abbrev pub grouped_faults : List Item → List ItemTyping → List Term → List Breach
grouped_faults items typed keys = if groups keys typed then not_grouped items keys items typed else []

-- the columns: an expression each, or keys, arguments and aggregates
abbrev pub projection_by : List expressed.Term → List Item → List ItemTyping → List Term → tree.Projection
projection_by terms items typed keys =
    if groups keys typed then tree.grouped_by terms (arguments_of typed) (aggs_of items keys (length keys) items typed)
    else tree.plain (plain_terms typed)

-- the scope in which bare names stand for items
abbrev pub scope_with : Scope → List ItemTyping → Scope
scope_with row typed = record { sources = row.sources; names = stand_for_items typed }

-- the clauses after the sources: of the rows in the scope `row`, and where bare names stand for items in the scope `scope`
module _ (known : Known) (row scope : Scope) (items : List Item) (typed : List ItemTyping) (clauses : Clauses) where
  -- `where`, `consolidate`, `group by`, the grouping rule, `order by`, `limit`
  abbrev pub clause_faults : List Breach
  clause_faults =
      each_faults known row kind.Boolean clauses.conds
      ++ (consolidation_faults known scope clauses.cons
      ++ (each_faults known scope kind.Any clauses.group
      ++ (grouped_faults items typed clauses.group
      ++ (orders_faults known scope items clauses.order
      ++ bad_limit clauses.limit))))

  abbrev pub projection : tree.Projection
  projection = projection_by (terms_of known scope clauses.group) items typed clauses.group

  abbrev pub select_clauses : tree.SelectClauses
  select_clauses = record {
    conds = terms_of known row clauses.conds;
    consolidate = consolidation_of known scope clauses.cons;
    projection = projection;
    order = map (item_number items) clauses.order;
    limit = limit_of clauses.limit;
  }

-- the rows of a selection, in a scope where no bare name stands for anything, as in an item and in `where`
module _ (known : Known) (row : Scope) (items : List Item) (clauses : Clauses) where
  abbrev pub items_typed : List ItemTyping
  items_typed = map (select_item known row) items

  -- in `consolidate on`, `group by` and `order by` a bare name stands for an item's expression
  abbrev pub item_scope : Scope
  item_scope = scope_with row items_typed

  -- items, item names, and the clauses
  abbrev pub rows_faults : List Breach
  rows_faults =
      faults_of_items items_typed
      ++ (duplicate_columns (names_of_items items_typed) ++ clause_faults known row item_scope items items_typed clauses)

  abbrev pub rows_clauses : tree.SelectClauses
  rows_clauses = select_clauses known row item_scope items items_typed clauses
