-- What is said of a query and of a source: a selection and an extraction over sources of which it is said.
use Rattle.std.specs.Prelude.{ℕ, List, [], ◌∷◌, ◌++◌, map, flat_map}
use Rattle.aql_syntax.specs.Trees.{Name, Item, Clauses, Spec, Tail}
use Rattle.aql_typed.specs.Trees as tree
use Rattle.aql_typed.specs.declared.tree.Column.{Column}
use Rattle.clause_types.specs.declared.fault.Breach.{Breach}
use Rattle.clause_types.specs.declared.fault.TypeRule.TheVariants.{DuplicateAlias}
use Rattle.clause_types.specs.Faults.{duplicate}
use Rattle.clause_types.specs.Known.{Known}
use Rattle.clause_types.specs.Scopes.{Visible, Scope, row_over}
use Rattle.clause_types.specs.Items.{columns_of_items}
use Rattle.clause_types.specs.Selections.{items_typed, rows_faults, rows_clauses}
use Rattle.clause_types.specs.Extractions.{columns_given, found_faults, extract_clauses}

-- what is said of a query: the token of its first `select` or `extract`, its faults, its columns and what it is. The
-- last two count only where there is no fault
pub record QueryTyping : Type 0 where
  pub at : ℕ
  pub faults : List Breach
  pub columns : List Column
  pub body : tree.Query

-- what is said of a source: its alias, its faults, its columns and what it is
pub record SourceTyping : Type 0 where
  pub alias : Name
  pub faults : List Breach
  pub columns : List Column
  pub body : tree.Source

abbrev pub faults_of_sources : List SourceTyping → List Breach
faults_of_sources sources = flat_map (λ source. source.faults) sources

abbrev pub visible_source : SourceTyping → Visible
visible_source source = record { alias = source.alias.text; columns = source.columns }

abbrev pub visible_in : List SourceTyping → List Visible
visible_in sources = map visible_source sources

abbrev pub aliases_of : List SourceTyping → List Name
aliases_of sources = map (λ source. source.alias) sources

abbrev pub bodies_of : List SourceTyping → List tree.Source
bodies_of sources = map (λ source. source.body) sources

-- a selection of sources
abbrev pub selected : List tree.Source → tree.SelectClauses → tree.Query
selected sources clauses = tree.select (tree.as_sources sources) clauses

-- DuplicateAlias: an alias equals an earlier one; at the alias, or at the view's name
abbrev pub duplicate_aliases : List SourceTyping → List Breach
duplicate_aliases sources = duplicate DuplicateAlias (aliases_of sources)

-- the scope of a row of some sources
abbrev pub row_of : List SourceTyping → Scope
row_of sources = row_over (visible_in sources)

-- a selection: its sources from the left, aliases, items, item names, and the clauses
abbrev pub selection : Known → List SourceTyping → List Item → Clauses → ℕ → QueryTyping
selection known sources items clauses at = record {
  at = at;
  faults = faults_of_sources sources ++ (duplicate_aliases sources ++ rows_faults known (row_of sources) items clauses);
  columns = columns_of_items (items_typed known (row_of sources) items clauses);
  body = selected (bodies_of sources) (rows_clauses known (row_of sources) items clauses);
}

-- the scope of a row of its one source
abbrev pub row_of_one : SourceTyping → Scope
row_of_one source = row_of (source ∷ [])

-- an extraction: its source, and then what it finds
abbrev pub extraction : Known → SourceTyping → List Item → Spec → Tail → ℕ → QueryTyping
extraction known source items spec tail at = record {
  at = at;
  faults = source.faults ++ found_faults known (row_of_one source) items spec tail;
  columns = columns_given known (row_of_one source) items spec tail;
  body = tree.extract source.body (extract_clauses known (row_of_one source) items spec tail);
}
