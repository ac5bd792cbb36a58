-- What the code's maps keep of the names that some statements define.
use Rattle.std.specs.Prelude.{◌≡◌, ℕ, Bool, true, false, if◌then◌else◌, List, Option, Some, None, IsSome, Contains}
use Rattle.std.specs.Str.{bytes_eq}
use Rattle.std.specs.Map.{update}
use Rattle.std.specs.HashMap.{HashMap, get_by_text}
use Rattle.std.specs.declared.string.String.{String}
use Rattle.std.specs.HashSet.{HashSet, contains_by}
use denote.Ref.{Bor}
use Rattle.aql_syntax.specs.Trees.{Statement}
use Rattle.view_graph.specs.Names.{view_named, dictionary_named, names_defined, AllDiffer}
use Rattle.view_graph.specs.Uses.{CreatesView, CreatesDictionary}

-- what a map has at a name
abbrev pub entry_of : {Y X S : Type 0} → HashMap (String Y) X S → List ℕ → Option X
entry_of names name = get_by_text names name

-- whether a set has a name
abbrev pub has : {S : Type 0} → HashSet (Bor (List ℕ)) S → List ℕ → Bool
has names name = contains_by (λ k. bytes_eq name k.now) names

-- where the name wasn't there, it has the value, and the others are as they were
abbrev pub Adds : {X : Type 0} → (List ℕ → Option X) → (List ℕ → Option X) → List ℕ → X → Bool → Type 0
Adds old new name value true = (old name ≡ None) × ((q : List ℕ) → new q ≡ update bytes_eq old name (Some value) q)
Adds old new name value false = IsSome (old name)

abbrev pub AddsText : (List ℕ → Bool) → (List ℕ → Bool) → List ℕ → Bool → Type 0
AddsText old new name true = (old name ≡ false) × ((q : List ℕ) → new q ≡ (if bytes_eq name q then true else old q))
AddsText old new name false = old name ≡ true

-- each view has the index of its statement, and `Document` none
pub record IndexesViews (before : List Statement) (entry : List ℕ → Option (Option ℕ)) : Type 0 where
  pub there : (index : ℕ) (name : List ℕ) → CreatesView before index name → entry name ≡ Some (Some index)
  pub only : (index : ℕ) (name : List ℕ) → entry name ≡ Some (Some index) → CreatesView before index name
  pub known : (name : List ℕ) → IsSome (entry name) → Contains (names_defined before) (view_named name)
  pub unknown : (name : List ℕ) → entry name ≡ None → ¬ (Contains (names_defined before) (view_named name))

-- each dictionary has the index of its statement
pub record IndexesDictionaries (before : List Statement) (entry : List ℕ → Option ℕ) : Type 0 where
  pub only : (index : ℕ) (name : List ℕ) → entry name ≡ Some index → CreatesDictionary before index name
  pub known : (name : List ℕ) → IsSome (entry name) → Contains (names_defined before) (dictionary_named name)
  pub unknown : (name : List ℕ) → entry name ≡ None → ¬ (Contains (names_defined before) (dictionary_named name))

-- both, and no name is defined twice
pub record IndexesNames (before : List Statement) (view_at : List ℕ → Option (Option ℕ)) (dictionary_at : List ℕ → Option ℕ) : Type 0 where
  pub views : IndexesViews before view_at
  pub dictionaries : IndexesDictionaries before dictionary_at
  pub distinct : AllDiffer (names_defined before)
