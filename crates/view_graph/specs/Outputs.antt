-- What the code knows of the outputs before a statement.
use Rattle.std.specs.Prelude.{◌≡◌, ℕ, Bool, true, false, List, Contains}
use Rattle.aql_syntax.specs.Trees.{Statement}
use Rattle.view_graph.specs.declared.fault.NameFault.{NameFault}
use Rattle.view_graph.specs.declared.fault.NameFault.TheVariants.{DuplicateOutput}
use Rattle.view_graph.specs.Names.{outputs_of, AllDiffer}
use Rattle.view_graph.specs.Faults.{NamesOutputAgain}

-- the names of the outputs before are those that are there, and no two are equal
pub record HasSeen (before : List Statement) (there : List ℕ → Bool) : Type 0 where
  pub known : (name : List ℕ) → there name ≡ true → Contains (outputs_of before) name
  pub unknown : (name : List ℕ) → there name ≡ false → ¬ (Contains (outputs_of before) name)
  pub distinct : AllDiffer (outputs_of before)

-- the fault is of the first output whose name an earlier one has
pub record IsOutputAgain (program : List Statement) (fault : NameFault) : Type 0 where
  pub number : ℕ
  pub name : List ℕ
  pub is : fault ≡ DuplicateOutput number name
  pub again : NamesOutputAgain program number name
