-- Items: output columns of a selection, which may be aggregates, and of an extraction.
use Rattle.std.specs.Prelude.{ℕ, not, List, [], ◌++◌, Option, Some, None, map, flat_map, codes}
use Rattle.std.specs.Str.{bytes_eq}
use Rattle.aql_syntax.specs.Trees.{Name, Term, int, str, regex, column, bare, call, star, Item}
use Rattle.aql_syntax.specs.Naming.{item_name}
use Rattle.aql_typed.specs.declared.tree.Column.{Column}
use Rattle.scalar_ops.specs.declared.kind.Kind.TheVariants as kind
use Rattle.clause_types.specs.declared.fault.Breach.{Breach}
use Rattle.clause_types.specs.declared.fault.TypeRule.TheVariants.{DuplicateColumn, UnknownFunction}
use Rattle.clause_types.specs.declared.function.Aggregate.{Aggregate}
use Rattle.clause_types.specs.declared.wanted.Wanted.TheVariants.{OfKind}
use Rattle.clause_types.specs.Faults.{broken, first, duplicate}
use Rattle.clause_types.specs.Functions.{aggregate_named, wanted_by_aggregate, kind_told}
use Rattle.clause_types.specs.Known.{Known}
use Rattle.clause_types.specs.Typings.{Typing, faults_of, expression, row_count, aggregated, ItemTyping, column_of_item}
use Rattle.clause_types.specs.Scopes.{Scope}
use Rattle.clause_types.specs.Calls.{wrong_argument, wrong_arguments}
use Rattle.clause_types.specs.Expressions.{typing, typings}

-- the number of an expression's first token
abbrev pub at_of : Term → ℕ
at_of (int at n) = at
at_of (str at text) = at
at_of (regex at text) = at
at_of (column at alias name) = at
at_of (bare at name) = at
at_of (call at name args) = at
at_of (star at name) = at

-- an item's output name, with its token: the name that is given, or the column's, at the item
abbrev pub named_as : Option Name → ℕ → Option Name → Name
named_as (Some name) at own = name
named_as None at (Some own) = record { text = own.text; at = at }
named_as None at None = record { text = []; at = at }

abbrev pub output_name : Item → Name
output_name item = named_as item.name (at_of item.expr) (item_name item)

-- DuplicateColumn: an output name equals an earlier one; at the name, or at the item
abbrev pub duplicate_columns : List Name → List Breach
duplicate_columns names = duplicate DuplicateColumn names

abbrev pub faults_of_items : List ItemTyping → List Breach
faults_of_items items = flat_map (λ item. item.faults) items

abbrev pub columns_of_items : List ItemTyping → List Column
columns_of_items items = map column_of_item items

abbrev pub names_of_items : List ItemTyping → List Name
names_of_items items = map (λ item. item.name) items

-- an aggregate of its first argument, as far as it has one
abbrev pub told : Name → ℕ → Aggregate → Option Typing → ItemTyping
told name at a None = record { at = at; name = name; faults = []; kind = kind.Nothing; content = row_count }
told name at a (Some t) = record { at = at; name = name; faults = []; kind = kind_told a t.kind; content = aggregated a t.meant }

-- the rows of a group are counted by `Count(*)`; UnknownFunction: a `*` stands in another call; at the call
abbrev pub star_item : Name → ℕ → List ℕ → ItemTyping
star_item name at word = record {
  at = at;
  name = name;
  faults = broken (not (bytes_eq word (codes "Count"))) at (UnknownFunction word);
  kind = kind.Integer;
  content = row_count;
}

module _ (known : Known) where
  -- an expression as a whole item: it is wanted Any
  abbrev pub plain_item : Name → Typing → ItemTyping
  plain_item name t = record {
    at = t.at;
    name = name;
    faults = t.faults ++ wrong_argument known (OfKind kind.Any) t;
    kind = t.kind;
    content = expression t.meant;
  }

  -- an aggregate of one argument
  abbrev pub aggregate_item : Name → ℕ → Aggregate → List Typing → ItemTyping
  aggregate_item name at a args =
      let item = told name at a (first args) in
      record item { faults = faults_of args ++ wrong_arguments known at (wanted_by_aggregate a) args }

  module _ (scope : Scope) where
    abbrev pub item_of_call : Name → ℕ → List ℕ → List Typing → Typing → Option Aggregate → ItemTyping
    item_of_call name at word args whole None = plain_item name whole
    item_of_call name at word args whole (Some a) = aggregate_item name at a args

    abbrev pub item_of_expr : Name → Term → ItemTyping
    item_of_expr name (call at word args) =
        item_of_call name at word (typings known scope args) (typing known scope (call at word args)) (aggregate_named word)
    item_of_expr name (star at word) = star_item name at word
    item_of_expr name expr = plain_item name (typing known scope expr)

    -- an item of a selection
    abbrev pub select_item : Item → ItemTyping
    select_item item = item_of_expr (output_name item) item.expr

    -- an item of an extraction: an aggregate is no function there
    abbrev pub extract_item : Item → ItemTyping
    extract_item item = plain_item (output_name item) (typing known scope item.expr)
