-- Which view uses which. A statement's index in the program counts from 0: it is its number less one. A view is told by it.
use Rattle.std.specs.Prelude.{◌≡◌, ℕ, suc, ◌-◌, List, [], ◌∷◌, slice_index_or, Contains, ⊤}
use Rattle.aql_syntax.specs.Trees.{Statement, create, require}
use Rattle.view_graph.specs.Names.{view_named, dictionary_named, defined_by, names_used_by}

-- the statement at an index; past the end `require`, which defines and uses nothing
abbrev pub statement_at : List Statement → ℕ → Statement
statement_at program index = slice_index_or program index require

-- the statement with this number, from 1
abbrev pub statement_numbered : List Statement → ℕ → Statement
statement_numbered program number = statement_at program (number - 1)

-- the statement creates a view
abbrev pub IsView : Statement → Type 0
IsView (create name query) = ⊤
IsView statement = ⊥

-- the statement at this index creates the view with this name
abbrev pub CreatesView : List Statement → ℕ → List ℕ → Type 0
CreatesView program index name = defined_by (statement_at program index) ≡ view_named name ∷ []

-- the statement at this index creates the dictionary with this name
abbrev pub CreatesDictionary : List Statement → ℕ → List ℕ → Type 0
CreatesDictionary program index name = defined_by (statement_at program index) ≡ dictionary_named name ∷ []

-- a source of the query of the view at `user`, or of a query nested in it, names the view at `used`
pub record Uses (program : List Statement) (user used : ℕ) : Type 0 where
  pub name : List ℕ
  pub source : Contains (names_used_by (statement_at program user)) (view_named name)
  pub view : CreatesView program used name

-- the indexes, from `index` on, of the statements that create a view
abbrev pub views_from : ℕ → List Statement → List ℕ
views_from index [] = []
views_from index (create name query ∷ statements) = index ∷ views_from (suc index) statements
views_from index (statement ∷ statements) = views_from (suc index) statements

-- the views of a program, by index
abbrev pub views_of : List Statement → List ℕ
views_of program = views_from 0 program
