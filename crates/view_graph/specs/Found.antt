-- What a graph finds of a name.
use Rattle.std.specs.Prelude.{◌≡◌, ℕ, ◌-◌, ◌<◌, List, Option, None, Some, length, slice_index, codes}
use Rattle.aql_syntax.specs.Trees.{Statement}
use Rattle.view_graph.specs.declared.graph.NamedView.{NamedView}
use Rattle.view_graph.specs.declared.graph.NamedView.TheVariants.{Document, View}
use Rattle.view_graph.specs.Names.{view_named, dictionary_named, IsDefined}
use Rattle.view_graph.specs.Uses.{CreatesView, CreatesDictionary}

-- the statement with this number, from 1, creates the view with this name, and the number stands in the order at this index
pub record StandsAt (program : List Statement) (order : List ℕ) (name : List ℕ) (number index : ℕ) : Type 0 where
  pub creates : CreatesView program (number - 1) name
  pub within : index < length order
  pub number_is : slice_index order index ≡ number

-- the view with this name: `Document`, or where it is created and stands in the order, or none
abbrev pub FindsView : List Statement → List ℕ → List ℕ → Option NamedView → Type 0
FindsView program order name None = ¬ (IsDefined program (view_named name))
FindsView program order name (Some Document) = name ≡ codes "Document"
FindsView program order name (Some (View number index)) = StandsAt program order name number index

-- the number of the statement, from 1, that creates the dictionary with this name, or none
abbrev pub FindsDictionary : List Statement → List ℕ → Option ℕ → Type 0
FindsDictionary program name None = ¬ (IsDefined program (dictionary_named name))
FindsDictionary program name (Some number) = (0 < number) × CreatesDictionary program (number - 1) name
