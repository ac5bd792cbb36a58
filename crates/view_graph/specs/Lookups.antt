-- What the code knows of names that are looked up.
use Rattle.std.specs.Prelude.{◌≡◌, ℕ, ◌<◌, List, [], ◌∷◌, ◌++◌, take, length, slice_index_or, Contains, All}
use Rattle.aql_syntax.specs.Trees.{Statement}
use Rattle.view_graph.specs.declared.uses.Found.{Found}
use Rattle.view_graph.specs.declared.uses.Found.TheVariants.{View, Other, Nothing}
use Rattle.view_graph.specs.declared.fault.NameFault.{NameFault}
use Rattle.view_graph.specs.declared.fault.NameFault.TheVariants.{UnknownView, UnknownDictionary}
use Rattle.view_graph.specs.Names.{Named, view_named, dictionary_named, names_used_by, looked_up_by, names_looked_up, IsDefined}
use Rattle.view_graph.specs.Uses.{CreatesView, statement_at}

-- what is found of a name: the one statement that creates the view, or that it is defined and no view of the program
abbrev pub LooksUp : List Statement → Named → Found → Type 0
LooksUp program named (View view) =
    IsDefined program named
    × ((name : List ℕ) × (named ≡ view_named name) × CreatesView program view name)
    × ((other : ℕ) (name : List ℕ) → named ≡ view_named name → CreatesView program other name → other ≡ view)
LooksUp program named Other =
    IsDefined program named × ((view : ℕ) (name : List ℕ) → named ≡ view_named name → ¬ (CreatesView program view name))
LooksUp program named Nothing = ¬ (IsDefined program named)

-- the names are defined, and the views are those among them
pub record AreViewsNamed (program : List Statement) (names : List Named) (views : List ℕ) : Type 0 where
  pub defined : All (IsDefined program) names
  pub only : (view : ℕ) → Contains views view → (name : List ℕ) × Contains names (view_named name) × CreatesView program view name
  pub each : (view : ℕ) (name : List ℕ) → Contains names (view_named name) → CreatesView program view name → Contains views view

-- what the statement looks up is defined, and the views are those that it uses
pub record AreViewsUsed (program : List Statement) (statement : Statement) (views : List ℕ) : Type 0 where
  pub looked_up : All (IsDefined program) (looked_up_by statement)
  pub used : AreViewsNamed program (names_used_by statement) views

abbrev pub Unknown : ℕ → Named → NameFault → Type 0
Unknown number (view_named name) fault = fault ≡ UnknownView number name
Unknown number (dictionary_named name) fault = fault ≡ UnknownDictionary number name

-- the fault is of the first of the names that isn't defined
pub record MentionsUndefined (program : List Statement) (number : ℕ) (names : List Named) (fault : NameFault) : Type 0 where
  pub earlier : List Named
  pub named : Named
  pub later : List Named
  pub split : names ≡ earlier ++ named ∷ later
  pub undefined : ¬ (IsDefined program named)
  pub first : All (IsDefined program) earlier
  pub is : Unknown number named fault

-- for each of the first statements the views that it uses
pub record IsUseGraph (program : List Statement) (count : ℕ) (uses : List (List ℕ)) : Type 0 where
  pub length_is : length uses ≡ count
  pub looked_up : All (IsDefined program) (names_looked_up (take count program))
  pub used : (view : ℕ) → view < count → AreViewsNamed program (names_used_by (statement_at program view)) (slice_index_or uses view [])
