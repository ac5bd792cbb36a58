-- Reading queries.
use Rattle.std.specs.Prelude.{ℕ, zero, suc, Bool, ◌||◌, if◌then◌else◌, List, [], ◌∷◌, Option}
use Prim.Native.String.{String}
use Rattle.aql_lexer.specs.Kinds.{Kind}
use Rattle.aql_syntax.specs.Trees.{Name, Number, Term, Item, Cons, Clauses, Tail, Spec, Query, select, extract, union, minus, as_queries, Source, view, nested, as_sources}
use Rattle.aql_parser.specs.Readers.{Reader, and_then, ◌⊗◌, ◌▷◌, ◌◁◌, mapped, eaten, optional, where_seen, repeated, separated, clause, sees, sees_sign, symbol, keyword, a_name, sees_name, a_string, an_int}
use Rattle.aql_parser.specs.Reading.Expressions.{read_term, read_item, refused}
use Rattle.aql_parser.specs.Reading.Extractions.{begins_pattern, begins_dict, begins_blocks, read_blocks, read_sought}

abbrev pub read_conds : String → ℕ → Reader (List Term)
read_conds begin depth = clause (sees begin) (separated (sees "and") (read_term depth))

abbrev pub read_keys : String → ℕ → Reader (List Term)
read_keys begin depth = clause (sees begin) (keyword "by" ▷ separated (sees_sign ",") (read_term depth))

abbrev pub made_cons : Term × Option Name → Cons
made_cons parts = record { target = parts.0; policy = parts.1 }

abbrev pub after_consolidate : ℕ → Reader Cons
after_consolidate depth = mapped made_cons (keyword "on" ▷ read_term depth ⊗ optional (sees "using") a_string)

unfoldable pub read_cons : ℕ → Reader (Option Cons)
read_cons depth = optional (sees "consolidate") (after_consolidate depth)

abbrev pub read_limit : Reader (Option Number)
read_limit = optional (sees "limit") an_int

abbrev pub made_clauses : List Term × (Option Cons × (List Term × (List Term × Option Number))) → Clauses
made_clauses parts = record {
  conds = parts.0;
  cons = parts.1.0;
  group = parts.1.1.0;
  order = parts.1.1.1.0;
  limit = parts.1.1.1.1;
}

unfoldable pub read_keys_and_limit : ℕ → Reader (List Term × (List Term × Option Number))
read_keys_and_limit depth = read_keys "group" depth ⊗ read_keys "order" depth ⊗ read_limit

unfoldable pub read_clauses : ℕ → Reader Clauses
read_clauses depth =
    mapped made_clauses (read_conds "where" depth ⊗ read_cons depth ⊗ read_keys_and_limit depth)

abbrev pub made_tail : List Term × (Option Cons × Option Number) → Tail
made_tail parts = record { conds = parts.0; cons = parts.1.0; limit = parts.1.1 }

unfoldable pub read_tail : ℕ → Reader Tail
read_tail depth = mapped made_tail (read_conds "having" depth ⊗ read_cons depth ⊗ read_limit)

-- what the extraction looks for comes next
abbrev pub begins_sought : List Kind → Bool
begins_sought ks = begins_pattern ks || begins_dict ks

-- an item and its comma
abbrev pub item_before : ℕ → Reader Item
item_before depth = read_item depth ◁ symbol ","

unfoldable pub read_items_before : ℕ → Reader (List Item)
read_items_before depth = repeated begins_sought (item_before depth)

unfoldable pub read_extracted : ℕ → Reader (List Item × Spec)
read_extracted depth n ks =
    if begins_blocks ks then mapped (λ spec. ([], spec)) read_blocks n ks
    else (read_items_before depth ⊗ read_sought) n ks

abbrev pub made_view : Name × Option Name → Source
made_view parts = view parts.0 parts.1

abbrev pub made_nested : Query × Name → Source
made_nested parts = nested parts.0 parts.1

unfoldable pub read_view : Reader Source
read_view = mapped made_view (a_name ⊗ where_seen sees_name a_name)

abbrev pub made_select : ℕ → List Item × (List Source × Clauses) → Query
made_select at parts = select at parts.0 (as_sources parts.1.0) parts.1.1

abbrev pub made_extract : ℕ → (List Item × Spec) × (Source × Tail) → Query
made_extract at parts = extract at parts.0.0 parts.0.1 parts.1.0 parts.1.1

-- with a reader of what stands in parentheses, after its "(" and with its ")"
module _ (depth : ℕ) (parenthesis : Reader Query) where
  unfoldable pub source_with : Reader Source
  source_with =
      eaten (sees_sign "(") (mapped made_nested (parenthesis ⊗ a_name))
      read_view

  unfoldable pub selection : ℕ → Reader Query
  selection at =
      mapped (made_select at) (separated (sees_sign ",") (read_item depth) ⊗
      keyword "from" ▷ separated (sees_sign ",") source_with ⊗ read_clauses depth)

  unfoldable pub extraction : ℕ → Reader Query
  extraction at = mapped (made_extract at) (read_extracted depth ⊗ keyword "from" ▷ source_with ⊗ read_tail depth)

  -- "all" "(" query ")"
  unfoldable pub side : Reader Query
  side = keyword "all" ▷ symbol "(" ▷ parenthesis

  -- after the first of the queries that are put together
  unfoldable pub put_together : Query → Reader Query
  put_together first =
      eaten (sees "minus") (mapped (minus first) (symbol "(" ▷ parenthesis))
      (mapped (λ sides. union (as_queries (first ∷ sides))) (keyword "union" ▷ separated (sees "union") side))

  abbrev pub query_with : Reader Query
  query_with n =
      eaten (sees_sign "(") (λ m ks. and_then (parenthesis m ks) put_together)
      (eaten (sees "select") (selection n) (keyword "extract" ▷ extraction n)) n

-- a query in parentheses, after its "(", which is one of so many
unfoldable pub within : ℕ → Reader Query
within zero = refused
within (suc depth) = query_with depth (within depth) ◁ symbol ")"

unfoldable pub read_query : ℕ → Reader Query
read_query depth = query_with depth (within depth)

abbrev pub read_source : ℕ → Reader Source
read_source depth = source_with depth (within depth)
