-- The first fault of a program.
use Rattle.std.proofs.Common.{◌≡◌, ◌∙◌, ◌+◌, ◌<◌, ℕ, List, [], ◌∷◌, ◌++◌, Some, Option, option_map, map, drop, get_or, length, ap, sym, subst, Result, IfErr}
use Rattle.std.specs.Result.{IsErrAnd}
use Rattle.std.specs.List.{flat_map}
use Rattle.std.proofs.lemmas.List.{at_drop_more, append_assoc}
use Rattle.std.proofs.lemmas.Option.{none-some}
use Rattle.std.proofs.lemmas.Result.{err_from_is_err_and}
use Rattle.span_token.specs.declared.refusal.Failure.{Failure}
use Rattle.span_token.specs.declared.refusal.Failure.TheVariants.{OutOfMemory, Fault}
use Rattle.aql_syntax.specs.Trees.{Statement}
use Rattle.view_graph.specs.Uses.{statement_numbered}
use Rattle.clause_types.specs.declared.fault.Breach.{Breach}
use Rattle.aql_types.specs.declared.fault.TypeFault.{TypeFault}
use Rattle.clause_types.specs.Faults.{first}
use Rattle.clause_types.specs.Known.{Known}
use Rattle.aql_types.specs.Programs.{ViewTyping, fault_in, typing_of_statement, typings_from}
use Rattle.aql_types.specs.Queries.{View}
use Rattle.clause_types.specs.Refusals.{IsFirst}
use Rattle.aql_types.specs.Refusals.{IsFirstFault, told}

-- the first of the faults in a statement
first-map : (number : ℕ) (faults : List Breach) (fault : Breach) → first faults ≡ Some fault → first (map (fault_in number) faults) ≡ Some (fault_in number fault)
first-map number [] fault h = absurd (none-some fault h)
first-map number (x ∷ faults) fault h = ap (λ (o : Option Breach). option_map (fault_in number) o) h

pub first_told : (number : ℕ) (faults : List Breach) (failure : Failure Breach) → IsFirst faults failure → IsFirstFault (map (fault_in number) faults) (told number failure)
first_told number faults OutOfMemory h = record { is = tt }
first_told number faults (Fault fault) h = record { is = first-map number faults fault h.is }

pub first_of_program : (a b : List TypeFault) (failure : Failure TypeFault) → IsFirstFault a failure → IsFirstFault (a ++ b) failure
first_of_program a b OutOfMemory h = record { is = tt }
first_of_program [] b (Fault fault) h = absurd (none-some fault h.is)
first_of_program (x ∷ a) b (Fault fault) h = record { is = h.is }

pub raised_in : {A : Type 0} (r : Result A (Failure TypeFault)) (faults : List TypeFault) (failure : Failure TypeFault)
    → IsErrAnd r (λ e. e ≡ failure) → IsFirstFault faults failure → IfErr r (IsFirstFault faults)
raised_in r faults failure is h =
    let p = err_from_is_err_and r is in rw (p.1, p.2) h

abbrev pub faults_from : Known → List Statement → List View → List ℕ → List TypeFault
faults_from known program below order = flat_map (λ t. t.faults) (typings_from known program below order)

abbrev pub views_from : Known → List Statement → List View → List ℕ → List View
views_from known program below order = map (λ t. t.view) (typings_from known program below order)

-- one view more, at the index that a loop has come to
module _ (known : Known) (program : List Statement) (order : List ℕ) (i n : ℕ) (is : n ≡ get_or order i n) (within : i < length order) (below : List View) where
  abbrev said : ViewTyping
  said = typing_of_statement known below n (statement_numbered program n)

  more_faults : faults_from known program below (drop i order) ≡ said.faults ++ faults_from known program (below ++ said.view ∷ []) (drop (i + 1) order)
  more_faults =
      at_drop_more (λ (ns : List ℕ). faults_from known program below ns) order i n within
      ∙ ap (λ (m : ℕ). faults_from known program below (m ∷ drop (i + 1) order)) (sym is)

  pub faults_on : (all : List TypeFault) → faults_from known program below (drop i order) ≡ all → said.faults ≡ []
      → faults_from known program (below ++ said.view ∷ []) (drop (i + 1) order) ≡ all
  faults_on all so_far none =
      sym (ap (λ (fs : List TypeFault). fs ++ faults_from known program (below ++ said.view ∷ []) (drop (i + 1) order)) none)
      ∙ (sym more_faults ∙ so_far)

  pub fault_here : (all : List TypeFault) → faults_from known program below (drop i order) ≡ all → (failure : Failure TypeFault) → IsFirstFault said.faults failure
      → IsFirstFault all failure
  fault_here all so_far failure h =
      subst (λ (fs : List TypeFault). IsFirstFault fs failure) (sym more_faults ∙ so_far)
      (first_of_program said.faults (faults_from known program (below ++ said.view ∷ []) (drop (i + 1) order)) failure h)

  pub views_on : (all : List View) → below ++ views_from known program below (drop i order) ≡ all
      → (below ++ said.view ∷ []) ++ views_from known program (below ++ said.view ∷ []) (drop (i + 1) order) ≡ all
  views_on all so_far =
      append_assoc below (said.view ∷ []) (views_from known program (below ++ said.view ∷ []) (drop (i + 1) order))
      ∙ (sym (ap (λ (vs : List View). below ++ vs)
      (at_drop_more (λ (ns : List ℕ). views_from known program below ns) order i n within
      ∙ ap (λ (m : ℕ). views_from known program below (m ∷ drop (i + 1) order)) (sym is))) ∙ so_far)
