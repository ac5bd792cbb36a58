-- The names that a program gives: by which a query speaks of a source, of a column, of an output.
use Rattle.std.specs.Prelude.{ℕ, Bool, ◌||◌, List, Option, Some, None, codes}
use Rattle.std.specs.Str.{bytes_eq}
use Rattle.aql_syntax.specs.Trees.{Name, Term, column, Item, Source, view, nested, Statement, output}

-- a source's alias, or else its view's name
abbrev pub alias_of : Source → Name
alias_of (view name None) = name
alias_of (view name (Some alias)) = alias
alias_of (nested query alias) = alias

-- the name that an item is given, or else that of its column
abbrev pub column_name : Option Name → Term → Option Name
column_name (Some name) expr = Some name
column_name None (column at alias name) = Some name
column_name None expr = None

abbrev pub item_name : Item → Option Name
item_name item = column_name item.name item.expr

-- the name of the output that a statement is: the text after `as`, or else its view's name
abbrev pub output_name : Statement → Option (List ℕ)
output_name (output name None) = Some name.text
output_name (output name (Some alias)) = Some alias
output_name statement = None

-- the function with this name takes a dictionary as its first argument
abbrev pub is_dictionary_predicate : List ℕ → Bool
is_dictionary_predicate name = bytes_eq name (codes "ContainsDict") || bytes_eq name (codes "MatchesDict")
