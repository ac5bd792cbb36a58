-- The faults of names: which statement has one, and with which name.
use Rattle.std.specs.Prelude.{◌≡◌, ℕ, ◌+◌, List, [], ◌∷◌, ◌++◌, length, Contains, All}
use Rattle.aql_syntax.specs.Trees.{Statement}
use Rattle.view_graph.specs.Names.{Named, view_named, dictionary_named, defined_by, looked_up_by, output_of, names_defined, names_looked_up, outputs_of, AllDiffer, IsDefined}

-- the number of a statement, from 1, with what stands before it
pub record IsNumbered (program : List Statement) (number : ℕ) (before : List Statement) (statement : Statement) : Type 0 where
  pub after : List Statement
  pub split : program ≡ before ++ statement ∷ after
  pub number_is : number ≡ length before + 1

-- the name without its space
abbrev pub text_of : Named → List ℕ
text_of (view_named text) = text
text_of (dictionary_named text) = text

-- the statement is the first that defines a name which is defined before it, or `Document`
pub record DefinesAgain (program : List Statement) (number : ℕ) (name : List ℕ) : Type 0 where
  pub before : List Statement
  pub statement : Statement
  pub numbered : IsNumbered program number before statement
  pub named : Named
  pub defines : defined_by statement ≡ named ∷ []
  pub name_is : name ≡ text_of named
  pub again : Contains (names_defined before) named
  pub first : AllDiffer (names_defined before)

-- the name is the first in the text that is looked up and not defined, and it stands in that statement
pub record LooksUpUndefined (program : List Statement) (number : ℕ) (named : Named) : Type 0 where
  pub before : List Statement
  pub statement : Statement
  pub numbered : IsNumbered program number before statement
  pub earlier : List Named
  pub later : List Named
  pub looks_up : looked_up_by statement ≡ earlier ++ named ∷ later
  pub undefined : ¬ (IsDefined program named)
  pub first : All (IsDefined program) (names_looked_up before ++ earlier)

-- the statement is the first output whose name an earlier one has
pub record NamesOutputAgain (program : List Statement) (number : ℕ) (name : List ℕ) : Type 0 where
  pub before : List Statement
  pub statement : Statement
  pub numbered : IsNumbered program number before statement
  pub names : output_of statement ≡ name ∷ []
  pub again : Contains (outputs_of before) name
  pub first : AllDiffer (outputs_of before)
