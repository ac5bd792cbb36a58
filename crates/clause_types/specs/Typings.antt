-- What is said of an expression, of an output column and of a source.
use Rattle.std.specs.Prelude.{ℕ, ℤ, pos, List, [], map, flat_map}
use Rattle.aql_syntax.specs.Trees.{Name}
use Rattle.aql_typed.specs.declared.tree.Column.{Column}
use Rattle.scalar_ops.specs.declared.kind.Kind.{Kind}
use Rattle.scalar_ops.specs.Expressions.{Term, column, number, string}
use Rattle.clause_types.specs.declared.fault.Breach.{Breach}
use Rattle.clause_types.specs.declared.function.Aggregate.{Aggregate}

-- what an expression stands for: a value, or a pattern, which a regular expression stands for and nothing else
pub data Meant : Type 0 where
  value : Term → Meant
  pattern : List ℕ → Meant

-- what is said of an expression: its token, all its faults in the order of checking, its kind, and what it stands for.
-- The last two count only where there is no fault
pub record Typing : Type 0 where
  pub at : ℕ
  pub faults : List Breach
  pub kind : Kind
  pub meant : Meant

abbrev pub kinds_of : List Typing → List Kind
kinds_of typings = map (λ t. t.kind) typings

abbrev pub faults_of : List Typing → List Breach
faults_of typings = flat_map (λ t. t.faults) typings

-- the value, the integer, the text, the pattern's text and the column's number that is meant, where it is one
abbrev pub term_meant : Meant → Term
term_meant (value t) = t
term_meant (pattern text) = string text

abbrev pub integer_meant : Meant → ℤ
integer_meant (value (number n)) = n
integer_meant meant = pos 0

abbrev pub text_meant : Meant → List ℕ
text_meant (value (string text)) = text
text_meant (pattern text) = text
text_meant meant = []

abbrev pub column_meant : Meant → ℕ
column_meant (value (column n)) = n
column_meant meant = 0

abbrev pub terms_meant : List Typing → List Term
terms_meant typings = map (λ t. term_meant t.meant) typings

-- what an output column is made of: the value of an expression, the number of rows, or an aggregate of a value
pub data Content : Type 0 where
  expression : Meant → Content
  row_count : Content
  aggregated : Aggregate → Meant → Content

-- what is said of an item: the token of its expression, its output name with the token at which a second one is refused,
-- its faults, its kind and what it is made of
pub record ItemTyping : Type 0 where
  pub at : ℕ
  pub name : Name
  pub faults : List Breach
  pub kind : Kind
  pub content : Content

-- the columns that items give
abbrev pub column_of_item : ItemTyping → Column
column_of_item item = record { name = item.name.text; kind = item.kind }
