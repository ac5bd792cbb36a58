-- What the names in an expression stand for: columns of the sources by their aliases, and bare names.
use Rattle.std.specs.Prelude.{ℕ, ◌+◌, suc, List, [], ◌∷◌, Option, Some, None, find, length, true, codes, if◌then◌else◌}
use Rattle.std.specs.Str.{bytes_eq}
use Rattle.aql_syntax.specs.Trees.{Name}
use Rattle.aql_typed.specs.declared.tree.Column.{Column}
use Rattle.scalar_ops.specs.declared.kind.Kind.{Kind}
use Rattle.scalar_ops.specs.declared.kind.Kind.TheVariants.{Nothing}
use Rattle.scalar_ops.specs.Expressions.{column, string}
use Rattle.clause_types.specs.declared.fault.Breach.{Breach}
use Rattle.clause_types.specs.declared.fault.TypeRule.TheVariants.{UnknownAlias, UnknownColumn, UnknownFunction}
use Rattle.clause_types.specs.Faults.{broken}
use Rattle.clause_types.specs.Functions.{name_of_aggregate}
use Rattle.clause_types.specs.Typings.{Meant, value, Typing, Content, expression, row_count, aggregated, ItemTyping}

-- a source as expressions see it
pub record Visible : Type 0 where
  pub alias : List ℕ
  pub columns : List Column

-- what a bare name stands for: nothing, as in an item and in `where`; the expression of the item with that output name;
-- or the column with that name
pub data Names : Type 0 where
  no_names : Names
  names_of_items : List ItemTyping → Names
  names_of_columns : List Column → Names

-- what the names in an expression stand for
pub record Scope : Type 0 where
  pub sources : List Visible
  pub names : Names

-- the scope of a row of some sources, as in an item and in `where`: no bare name stands for anything
abbrev pub row_over : List Visible → Scope
row_over sources = record { sources = sources; names = no_names }

-- what stands for something with faults
abbrev pub nothing : Meant
nothing = value (string [])

-- an expression with a fault
abbrev pub faulty : ℕ → List Breach → Typing
faulty at faults = record { at = at; faults = faults; kind = Nothing; meant = nothing }

-- a column with its number
pub record Numbered : Type 0 where
  pub number : ℕ
  pub kind : Kind

-- the first column with a name, where the columns count from `start`
abbrev pub column_named : List ℕ → ℕ → List Column → Option Numbered
column_named name start [] = None
column_named name start (c ∷ columns) =
    if bytes_eq c.name name then Some (record { number = start; kind = c.kind }) else column_named name (suc start) columns

-- a source's columns, and the number of the first of them
pub record SourceColumns : Type 0 where
  pub start : ℕ
  pub columns : List Column

-- the first source with an alias, where the columns of all sources count from `start`, from the left
abbrev pub source_named : List ℕ → ℕ → List Visible → Option SourceColumns
source_named alias start [] = None
source_named alias start (s ∷ sources) =
    if bytes_eq s.alias alias then Some (record { start = start; columns = s.columns })
    else source_named alias (start + length s.columns) sources

abbrev pub typing_of_numbered : ℕ → Numbered → Typing
typing_of_numbered at found = record { at = at; faults = []; kind = found.kind; meant = value (column found.number) }

-- UnknownColumn: there is no column with the name; at the expression
abbrev pub found_or_unknown : ℕ → List ℕ → Option Numbered → Typing
found_or_unknown at name None = faulty at (broken true at (UnknownColumn name))
found_or_unknown at name (Some found) = typing_of_numbered at found

-- UnknownAlias: a column's alias is no source's; at the alias
abbrev pub column_in : ℕ → Name → Name → Option SourceColumns → Typing
column_in at alias name None = faulty at (broken true alias.at (UnknownAlias alias.text))
column_in at alias name (Some source) = found_or_unknown at name.text (column_named name.text source.start source.columns)

abbrev pub typing_of_column : List Visible → ℕ → Name → Name → Typing
typing_of_column sources at alias name = column_in at alias name (source_named alias.text 0 sources)

-- an item's expression at a bare name; an aggregate can't stand there, and is UnknownFunction at the item's call
abbrev pub typing_of_content : ℕ → ItemTyping → Content → Typing
typing_of_content at item (expression meant) = record { at = at; faults = item.faults; kind = item.kind; meant = meant }
typing_of_content at item row_count = faulty at (broken true item.at (UnknownFunction (codes "Count")))
typing_of_content at item (aggregated a meant) = faulty at (broken true item.at (UnknownFunction (name_of_aggregate a)))

-- UnknownColumn: a bare name is no output name; at the expression
abbrev pub item_or_unknown : ℕ → List ℕ → Option ItemTyping → Typing
item_or_unknown at name None = faulty at (broken true at (UnknownColumn name))
item_or_unknown at name (Some item) = typing_of_content at item item.content

-- the first item with an output name
abbrev pub item_named : List ℕ → List ItemTyping → Option ItemTyping
item_named name items = find (λ item. bytes_eq item.name.text name) items

-- UnknownAlias: a bare name stands in an item or in `where`; at the name
abbrev pub typing_of_name : Names → ℕ → List ℕ → Typing
typing_of_name no_names at name = faulty at (broken true at (UnknownAlias name))
typing_of_name (names_of_items items) at name = item_or_unknown at name (item_named name items)
typing_of_name (names_of_columns columns) at name = found_or_unknown at name (column_named name 0 columns)
