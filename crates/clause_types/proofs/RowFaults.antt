-- The faults of a selection's rows where its items have none.
use Rattle.std.proofs.Common.{◌≡◌, ◌∙◌, List, [], ◌∷◌, ◌++◌, map, refl, ap, sym, subst}
use Rattle.span_token.specs.declared.refusal.Failure.{Failure}
use Rattle.aql_syntax.specs.Trees.{Item, Clauses}
use Rattle.clause_types.specs.declared.fault.Breach.{Breach}
use Rattle.clause_types.specs.declared.item.CheckedItem.{CheckedItem}
use Rattle.clause_types.specs.Items.{duplicate_columns, faults_of_items, names_of_items}
use Rattle.clause_types.specs.Known.{Known}
use Rattle.clause_types.specs.Refusals.{IsFirst}
use Rattle.clause_types.specs.Scopes.{Scope}
use Rattle.clause_types.specs.Selections.{items_typed, scope_with, clause_faults, rows_faults}
use Rattle.clause_types.specs.Typings.{ItemTyping}
use Rattle.clause_types.specs.Views.{item_seen}
use Rattle.clause_types.specs.FaultLaws.{first_here, first_later, all_faultless}

pub items_faultless : (checked : List CheckedItem) → faults_of_items (map item_seen checked) ≡ []
items_faultless [] = refl
items_faultless (x ∷ checked) = items_faultless checked

module _ (known : Known) (row : Scope) (items : List Item) (clauses : Clauses) (checked : List CheckedItem)
    (are : items_typed known row items clauses ≡ map item_seen checked) where
  abbrev names : List Breach
  names = duplicate_columns (names_of_items (map item_seen checked))

  abbrev rest : List Breach
  rest = clause_faults known row (scope_with row (map item_seen checked)) items (map item_seen checked) clauses

  rows_are : names ++ rest ≡ rows_faults known row items clauses
  rows_are =
      sym (ap (λ (ts : List ItemTyping). faults_of_items ts ++ (duplicate_columns (names_of_items ts) ++ clause_faults known row (scope_with row ts) items ts clauses)) are
      ∙ ap (λ (fs : List Breach). fs ++ (names ++ rest)) (items_faultless checked))

  pub in_names : (failure : Failure Breach) → IsFirst names failure → IsFirst (rows_faults known row items clauses) failure
  in_names failure h = subst (λ (fs : List Breach). IsFirst fs failure) rows_are (first_here names rest failure h)

  pub in_clauses : (failure : Failure Breach) → names ≡ [] → IsFirst rest failure → IsFirst (rows_faults known row items clauses) failure
  in_clauses failure none h = subst (λ (fs : List Breach). IsFirst fs failure) rows_are (first_later names rest failure none h)

  pub nowhere : names ≡ [] → rest ≡ [] → rows_faults known row items clauses ≡ []
  nowhere none no_more = sym rows_are ∙ all_faultless names rest none no_more
