-- What `resolve` answers: a graph without a fault, or the first fault of the program.
use Rattle.std.specs.Prelude.{◌≡◌, ℕ, ◌+◌, ◌-◌, ◌<◌, ◌≤◌, ◌⊎◌, List, map, length, slice_index, Contains, All, AllPairs, codes, ⊤}
use Rattle.std.specs.List.{AllZip}
use Rattle.aql_syntax.specs.Trees.{Statement}
use Rattle.view_graph.specs.declared.fault.NameFault.{NameFault}
use Rattle.view_graph.specs.declared.fault.NameFault.TheVariants.{DuplicateName, UnknownView, UnknownDictionary, DuplicateOutput, Cycle}
use Rattle.view_graph.specs.Names.{view_named, dictionary_named, names_defined, names_used_by, outputs_of, AllDiffer, LooksUpDefined}
use Rattle.view_graph.specs.Faults.{DefinesAgain, LooksUpUndefined, NamesOutputAgain}
use Rattle.view_graph.specs.Graphs.{IsClosed, IsCycle, HasRank, IsByRank}
use Rattle.view_graph.specs.Uses.{Uses, CreatesView, IsView, statement_numbered, views_of}

-- no name is defined twice, and each that is looked up is defined
pub record HasNames (program : List Statement) : Type 0 where
  pub distinct : AllDiffer (names_defined program)
  pub defined : LooksUpDefined program

-- the names are sound, and no two outputs have one name
pub record HasOutputs (program : List Statement) : Type 0 where
  pub names : HasNames program
  pub outputs_distinct : AllDiffer (outputs_of program)

-- the views of the list, by their names, are a cycle
pub record NamesCycle (program : List Statement) (views : List (List ℕ)) : Type 0 where
  pub indexes : List ℕ
  pub cycle : IsCycle (Uses program) indexes
  pub named : AllZip (CreatesView program) indexes views

-- the fault is the program's first: of names defined, then of names looked up, then of outputs, then a cycle
abbrev pub IsNameFault : List Statement → NameFault → Type 0
IsNameFault program (DuplicateName number name) = DefinesAgain program number name
IsNameFault program (UnknownView number name) =
    AllDiffer (names_defined program) × LooksUpUndefined program number (view_named name)
IsNameFault program (UnknownDictionary number name) =
    AllDiffer (names_defined program) × LooksUpUndefined program number (dictionary_named name)
IsNameFault program (DuplicateOutput number name) = HasNames program × NamesOutputAgain program number name
IsNameFault program (Cycle views) = HasOutputs program × NamesCycle program views

-- the view with this name stands in the order before the index
pub record StandsBefore (program : List Statement) (order : List ℕ) (index : ℕ) (name : List ℕ) : Type 0 where
  pub earlier : ℕ
  pub before : earlier < index
  pub creates : CreatesView program (slice_index order earlier - 1) name

-- each number of the order is that of a statement which creates a view; a name has one view and `Document` none;
-- each view that one in the order uses is `Document` or stands before it
pub record FollowsUses (program : List Statement) (order : List ℕ) : Type 0 where
  pub in_program : All (λ number. (0 < number) × (number ≤ length program)) order
  pub views : All (λ number. IsView (statement_numbered program number)) order
  pub one_view : (view other : ℕ) (name : List ℕ) → CreatesView program view name → CreatesView program other name → view ≡ other
  pub no_document : (view : ℕ) → ¬ (CreatesView program view (codes "Document"))
  pub used_before : (index : ℕ) (name : List ℕ) → index < length order → Contains (names_used_by (statement_numbered program (slice_index order index))) (view_named name)
      → (name ≡ codes "Document") ⊎ StandsBefore program order index name

-- the program has no fault, and `order` has the numbers of its views, from 1, by rank and then by number;
-- each view has one rank, and no view uses one that comes after it
pub record IsResolved (program : List Statement) (order : List ℕ) : Type 0 where
  pub outputs : HasOutputs program
  pub no_cycle : (views : List ℕ) → ¬ (IsClosed (Uses program) views)
  pub ranked : List ℕ
  pub by_rank : IsByRank (Uses program) (views_of program) ranked
  pub numbers : order ≡ map (λ view. view + 1) ranked
  pub one_rank : (view rank other : ℕ) → HasRank (Uses program) view rank → HasRank (Uses program) view other → rank ≡ other
  pub used_first : AllPairs (λ view later. ¬ (Uses program view later)) ranked
  pub follows : FollowsUses program order

abbrev pub IsCycleFault : NameFault → Type 0
IsCycleFault (Cycle views) = ⊤
IsCycleFault fault = ⊥

-- a program is resolved or has a fault, and not both; there is one order, and one fault, but that any of
-- several cycles may be told
pub record IsNameDecided (program : List Statement) : Type 0 where
  pub one_of_two : ((order : List ℕ) × IsResolved program order) ⊎ ((fault : NameFault) × IsNameFault program fault)
  pub one_order : (order other : List ℕ) → IsResolved program order → IsResolved program other → order ≡ other
  pub one_fault : (fault other : NameFault) → IsNameFault program fault → IsNameFault program other → (fault ≡ other) ⊎ (IsCycleFault fault × IsCycleFault other)
  pub not_both : (order : List ℕ) (fault : NameFault) → IsResolved program order → ¬ (IsNameFault program fault)
