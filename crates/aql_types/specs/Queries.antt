-- Queries: sources, selections, extractions, unions and differences.
use Rattle.std.specs.Prelude.{Bool, List, None, Option, Some, [], codes, false, flat_map, if◌then◌else◌, map, not, suc, true, ℕ, ◌&&◌, ◌++◌, ◌∷◌}
use Rattle.std.specs.Str.{bytes_eq}
use Rattle.aql_syntax.specs.Trees.{Name, Query, select, extract, union, minus, Queries, no_queries, more_queries, Source, view, nested, Sources, no_sources, more_sources}
use Rattle.aql_typed.specs.Trees as typed
use Rattle.aql_typed.specs.declared.tree.Column.{Column}
use Rattle.scalar_ops.specs.declared.kind.Kind.{Kind}
use Rattle.scalar_ops.specs.declared.kind.Kind.TheVariants as kind
use Rattle.clause_types.specs.declared.fault.Breach.{Breach}
use Rattle.clause_types.specs.declared.fault.TypeRule.TheVariants.{SchemaMismatch}
use Rattle.clause_types.specs.Faults.{broken}
use Rattle.clause_types.specs.Known.{Known}
use Rattle.aql_types.specs.QueryTypings.{QueryTyping, SourceTyping, selection, extraction}

-- a view that stands below: its name, its columns and what it is
pub record View : Type 0 where
  pub name : List ℕ
  pub columns : List Column
  pub body : typed.Query

-- what a view's name stands for
pub record Below : Type 0 where
  pub columns : List Column
  pub body : typed.Source

-- the document has one column, the span of its text
abbrev pub document_below : Below
document_below = record { columns = record { name = codes "text"; kind = kind.Span } ∷ []; body = typed.document }

abbrev pub view_below : ℕ → View → Below
view_below number v = record { columns = v.columns; body = typed.view number }

-- the view with this name, where the views count from `number`; `Document` is none of them, and each other name that a
-- query uses is one
abbrev pub view_named : List ℕ → ℕ → List View → Below
view_named name number [] = document_below
view_named name number (v ∷ views) =
    if bytes_eq v.name name then view_below number v else view_named name (suc number) views

-- the kinds that a column can have are told apart
abbrev pub same_kind : Kind → Kind → Bool
same_kind kind.Integer kind.Integer = true
same_kind kind.Boolean kind.Boolean = true
same_kind kind.Text kind.Text = true
same_kind kind.Span kind.Span = true
same_kind k other = false

abbrev pub same_column : Column → Column → Bool
same_column c d = bytes_eq c.name d.name && same_kind c.kind d.kind

-- equal names and kinds, one by one
abbrev pub same_columns : List Column → List Column → Bool
same_columns [] [] = true
same_columns (c ∷ columns) (d ∷ others) = same_column c d && same_columns columns others
same_columns columns others = false

abbrev pub faults_of_sides : List QueryTyping → List Breach
faults_of_sides sides = flat_map (λ side. side.faults) sides

-- SchemaMismatch: a later side differs from the first in a column's name or kind, or in their order; at its first `select` or `extract`
abbrev pub mismatch : QueryTyping → QueryTyping → List Breach
mismatch first later = broken (not (same_columns first.columns later.columns)) later.at SchemaMismatch

abbrev pub mismatches : QueryTyping → List QueryTyping → List Breach
mismatches first later = flat_map (mismatch first) later

abbrev pub mismatched : List QueryTyping → List Breach
mismatched [] = []
mismatched (side ∷ sides) = mismatches side sides

abbrev pub first_at : List QueryTyping → ℕ
first_at [] = 0
first_at (side ∷ sides) = side.at

abbrev pub first_columns : List QueryTyping → List Column
first_columns [] = []
first_columns (side ∷ sides) = side.columns

-- the sides from the left, and then their columns
abbrev pub typing_of_sides : List QueryTyping → typed.Query → QueryTyping
typing_of_sides sides body = record {
  at = first_at sides;
  faults = faults_of_sides sides ++ mismatched sides;
  columns = first_columns sides;
  body = body;
}

-- the alias, or else the view's name
abbrev pub alias_or : Name → Option Name → Name
alias_or name None = name
alias_or name (Some alias) = alias

abbrev pub typing_of_view : Name → Below → SourceTyping
typing_of_view alias below = record { alias = alias; faults = []; columns = below.columns; body = below.body }

abbrev pub typing_of_nested : Name → QueryTyping → SourceTyping
typing_of_nested alias query = record { alias = alias; faults = query.faults; columns = query.columns; body = typed.nested query.body }

abbrev pub bodies_of : List QueryTyping → List typed.Query
bodies_of sides = map (λ t. t.body) sides

abbrev pub union_of : List QueryTyping → QueryTyping
union_of sides = typing_of_sides sides (typed.union (typed.as_queries (bodies_of sides)))

abbrev pub minus_of : QueryTyping → QueryTyping → QueryTyping
minus_of left right = typing_of_sides (left ∷ right ∷ []) (typed.minus left.body right.body)

-- the same where the sides have no fault and equal columns
abbrev pub minus_with : QueryTyping → QueryTyping → QueryTyping
minus_with left right = record { at = left.at; faults = []; columns = left.columns; body = typed.minus left.body right.body }

module _ (known : Known) (below : List View) where
  abbrev mutual
    pub typing_of_query : Query → QueryTyping
    typing_of_query (select at items sources clauses) = selection known (typings_of_sources sources) items clauses at
    typing_of_query (extract at items spec source tail) = extraction known (typing_of_source source) items spec tail at
    typing_of_query (union sides) = union_of (typings_of_queries sides)
    typing_of_query (minus left right) = minus_of (typing_of_query left) (typing_of_query right)

    pub typings_of_queries : Queries → List QueryTyping
    typings_of_queries no_queries = []
    typings_of_queries (more_queries query queries) = typing_of_query query ∷ typings_of_queries queries

    pub typing_of_source : Source → SourceTyping
    typing_of_source (view name alias) = typing_of_view (alias_or name alias) (view_named name.text 0 below)
    typing_of_source (nested query alias) = typing_of_nested alias (typing_of_query query)

    pub typings_of_sources : Sources → List SourceTyping
    typings_of_sources no_sources = []
    typings_of_sources (more_sources source sources) = typing_of_source source ∷ typings_of_sources sources
