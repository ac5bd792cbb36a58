-- Extractions: the parts in the order of checking, and what an extraction is without a fault.
use Rattle.std.specs.Prelude.{ℕ, ℤ, pos, Bool, true, false, not, ◌&&◌, List, [], ◌∷◌, ◌++◌, Option, Some, None, map, flat_map, int_le, nat_abs}
use Rattle.aql_syntax.specs.Trees.{Name, Number, Item, Tail, Range, one, two, Group, Flag, exact, ignore_case, Spec, pattern, dict, blocks}
use Rattle.aql_typed.specs.Trees as tree
use Rattle.aql_typed.specs.declared.tree.Column.{Column}
use Rattle.scalar_ops.specs.declared.kind.Kind.TheVariants as kind
use Rattle.clause_types.specs.declared.fault.Breach.{Breach}
use Rattle.clause_types.specs.declared.fault.TypeRule.TheVariants.{BadRange, BadGroup}
use Rattle.clause_types.specs.Faults.{broken}
use Rattle.clause_types.specs.Known.{Known}
use Rattle.clause_types.specs.Typings.{Typing, ItemTyping, column_meant}
use Rattle.clause_types.specs.Scopes.{Visible, names_of_columns, Scope, typing_of_column}
use Rattle.clause_types.specs.Calls.{are_gap_bounds}
use Rattle.clause_types.specs.Expressions.{wrong_pattern}
use Rattle.clause_types.specs.Items.{duplicate_columns, faults_of_items, columns_of_items, names_of_items, extract_item}
use Rattle.clause_types.specs.Clauses.{bad_limit, limit_of, each_faults, kind_faults, consolidation_faults, terms_of, consolidation_of}
use Rattle.clause_types.specs.Selections.{plain_terms}

-- both ends of a range; one integer is both
abbrev pub low_of : Range → Number
low_of (one n) = n
low_of (two low high) = low

abbrev pub high_of : Range → Number
high_of (one n) = n
high_of (two low high) = high

-- whether token bounds and counts of blocks are in order
abbrev pub are_count_bounds : ℤ → ℤ → Bool
are_count_bounds low high = int_le (pos 1) low && (int_le low high && int_le high (pos 1000))

-- BadRange: a range is out of its bounds, which a test of both ends tells; at its first integer
abbrev pub bad_range : (ℤ → ℤ → Bool) → Range → List Breach
bad_range are_bounds range =
    broken (not (are_bounds (low_of range).value (high_of range).value)) (low_of range).at
    (BadRange (low_of range).value (high_of range).value)

abbrev pub bad_bound : Option Range → List Breach
bad_bound None = []
bad_bound (Some range) = bad_range are_count_bounds range

-- the number of a group: 0 where none is written
abbrev pub group_number : Option Number → ℕ
group_number None = 0
group_number (Some n) = nat_abs n.value

-- BadGroup: a number is below 0 or above the number of the pattern's groups; at the integer
abbrev pub bad_group : ℕ → Option Number → List Breach
bad_group count None = []
bad_group count (Some n) = broken (not (int_le (pos 0) n.value && int_le n.value (pos count))) n.at (BadGroup n.value)

abbrev pub bad_groups : ℕ → List Group → List Breach
bad_groups count groups = flat_map (λ group. bad_group count group.number) groups

abbrev pub group_numbers : List Group → List ℕ
group_numbers groups = map (λ group. group_number group.number) groups

-- blocks stand without items
abbrev pub items_beside : Spec → List Item → List Item
items_beside (pattern text bound alias name groups) items = items
items_beside (dict table flag alias name out) items = items
items_beside (blocks count gap tokens alias name out) items = []

-- the column in which is looked
abbrev pub alias_on : Spec → Name
alias_on (pattern text bound alias name groups) = alias
alias_on (dict table flag alias name out) = alias
alias_on (blocks count gap tokens alias name out) = alias

abbrev pub name_on : Spec → Name
name_on (pattern text bound alias name groups) = name
name_on (dict table flag alias name out) = name
name_on (blocks count gap tokens alias name out) = name

-- the names of the columns that are found; each is a Span
abbrev pub names_of_groups : List Group → List Name
names_of_groups groups = map (λ group. group.name) groups

abbrev pub names_found : Spec → List Name
names_found (pattern text bound alias name groups) = names_of_groups groups
names_found (dict table flag alias name out) = out ∷ []
names_found (blocks count gap tokens alias name out) = out ∷ []

abbrev pub span_columns : List Name → List Column
span_columns names = map (λ name. record { name = name.text; kind = kind.Span }) names

abbrev pub columns_found : Spec → List Column
columns_found spec = span_columns (names_found spec)

-- a dictionary is compared with case where `Exact` is written
abbrev pub is_exact_flag : Option Flag → Bool
is_exact_flag None = false
is_exact_flag (Some exact) = true
is_exact_flag (Some ignore_case) = false

abbrev pub pattern_looked_for : ℕ → ℕ → List ℕ → Option Range → tree.Extraction
pattern_looked_for column p groups None = tree.regex column p groups
pattern_looked_for column p groups (Some range) =
    tree.token_regex column (nat_abs (low_of range).value) (nat_abs (high_of range).value) p groups

-- the ranges of blocks: of spans, and of gaps
abbrev pub block_faults : Range → Range → List Breach
block_faults count gap = bad_range are_count_bounds count ++ bad_range are_gap_bounds gap

abbrev pub blocks_looked_for : ℕ → Range → Range → Bool → tree.Extraction
blocks_looked_for column count gap tokens =
    tree.blocks column (nat_abs (low_of count).value) (nat_abs (high_of count).value) (low_of gap).value (high_of gap).value tokens

-- `on`: a column, at its alias, which is a Span
abbrev pub typing_on : List Visible → Spec → Typing
typing_on sources spec = typing_of_column sources (alias_on spec).at (alias_on spec) (name_on spec)

-- in `having` and `consolidate on` bare names are the columns that are given, and there are no aliases
abbrev pub column_scope : List Column → Scope
column_scope columns = record { sources = []; names = names_of_columns columns }

module _ (known : Known) where
  -- a pattern, its bound and its groups
  abbrev pub pattern_faults : Name → Option Range → List Group → List Breach
  pattern_faults text bound groups =
      wrong_pattern text.at (known.pattern_fault text.text)
      ++ (bad_bound bound ++ bad_groups (known.group_count text.text) groups)

  -- the pattern, its bound and its groups; the ranges of blocks. A dictionary that is named is defined
  abbrev pub spec_faults : Spec → List Breach
  spec_faults (pattern text bound alias name groups) = pattern_faults text bound groups
  spec_faults (dict table flag alias name out) = []
  spec_faults (blocks count gap tokens alias name out) = block_faults count gap

  -- what is looked for, in the column with this number
  abbrev pub looked_for : ℕ → Spec → tree.Extraction
  looked_for column (pattern text bound alias name groups) =
      pattern_looked_for column (known.pattern_number text.text) (group_numbers groups) bound
  looked_for column (dict table flag alias name out) = tree.dict column (known.dict_number table.text (is_exact_flag flag))
  looked_for column (blocks count gap tokens alias name out) = blocks_looked_for column count gap tokens

  -- `having`, `consolidate`, `limit`
  abbrev pub tail_faults : Scope → Tail → List Breach
  tail_faults scope tail =
      each_faults known scope kind.Boolean tail.conds ++ (consolidation_faults known scope tail.cons ++ bad_limit tail.limit)

  -- what an extraction finds in the rows of its source, in a scope where no bare name stands for anything
  module _ (row : Scope) (items : List Item) (spec : Spec) (tail : Tail) where
    abbrev pub items_extracted : List ItemTyping
    items_extracted = map (extract_item known row) (items_beside spec items)

    -- the items, and then what is found
    abbrev pub columns_given : List Column
    columns_given = columns_of_items items_extracted ++ columns_found spec

    -- items, `on`, the pattern or dictionary, ranges, groups, output names, `having`, `consolidate`, `limit`
    abbrev pub found_faults : List Breach
    found_faults =
        faults_of_items items_extracted
        ++ (kind_faults known kind.Span (typing_on row.sources spec)
        ++ (spec_faults spec
        ++ (duplicate_columns (names_of_items items_extracted ++ names_found spec)
        ++ tail_faults (column_scope columns_given) tail)))

    abbrev pub extract_clauses : tree.ExtractClauses
    extract_clauses = record {
      items = plain_terms items_extracted;
      extraction = looked_for (column_meant (typing_on row.sources spec).meant) spec;
      conds = terms_of known (column_scope columns_given) tail.conds;
      consolidate = consolidation_of known (column_scope columns_given) tail.cons;
      limit = limit_of tail.limit;
    }
