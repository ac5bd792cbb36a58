-- The faults of what an extraction finds.
use Rattle.std.proofs.Common.{◌≡◌, ◌∙◌, List, [], ◌++◌, map, ap, sym, subst}
use Rattle.span_token.specs.declared.refusal.Failure.{Failure}
use Rattle.scalar_ops.specs.declared.kind.Kind.TheVariants as kind
use Rattle.aql_syntax.specs.Trees.{Item, Spec, Tail}
use Rattle.clause_types.specs.declared.fault.Breach.{Breach}
use Rattle.clause_types.specs.declared.item.CheckedItem.{CheckedItem}
use Rattle.clause_types.specs.Clauses.{kind_faults}
use Rattle.clause_types.specs.Extractions.{names_found, typing_on, column_scope, columns_found, spec_faults, tail_faults, items_extracted, found_faults}
use Rattle.clause_types.specs.Items.{duplicate_columns, faults_of_items, names_of_items, columns_of_items}
use Rattle.clause_types.specs.Known.{Known}
use Rattle.clause_types.specs.Refusals.{IsFirst}
use Rattle.clause_types.specs.Scopes.{Scope}
use Rattle.clause_types.specs.Typings.{ItemTyping}
use Rattle.clause_types.specs.Views.{item_seen}
use Rattle.clause_types.specs.FaultLaws.{first_here, first_later, all_faultless}
use Rattle.clause_types.proofs.RowFaults.{items_faultless}

module _ (known : Known) (row : Scope) (items : List Item) (spec : Spec) (tail : Tail) where
  pub in_items : (failure : Failure Breach) → IsFirst (faults_of_items (items_extracted known row items spec tail)) failure → IsFirst (found_faults known row items spec tail) failure
  in_items failure h = first_here (faults_of_items (items_extracted known row items spec tail)) _ failure h

  module _ (checked : List CheckedItem) (are : items_extracted known row items spec tail ≡ map item_seen checked) where
    abbrev on : List Breach
    on = kind_faults known kind.Span (typing_on row.sources spec)

    abbrev names : List Breach
    names = duplicate_columns (names_of_items (map item_seen checked) ++ names_found spec)

    abbrev last : List Breach
    last = tail_faults known (column_scope (columns_of_items (map item_seen checked) ++ columns_found spec)) tail

    found_are : on ++ (spec_faults known spec ++ (names ++ last)) ≡ found_faults known row items spec tail
    found_are =
        sym (ap (λ (ts : List ItemTyping). faults_of_items ts ++ (on ++ (spec_faults known spec
        ++ (duplicate_columns (names_of_items ts ++ names_found spec) ++ tail_faults known (column_scope (columns_of_items ts ++ columns_found spec)) tail)))) are
        ∙ ap (λ (fs : List Breach). fs ++ (on ++ (spec_faults known spec ++ (names ++ last)))) (items_faultless checked))

    pub in_column : (failure : Failure Breach) → IsFirst on failure → IsFirst (found_faults known row items spec tail) failure
    in_column failure h =
        subst (λ (fs : List Breach). IsFirst fs failure) found_are (first_here on (spec_faults known spec ++ (names ++ last)) failure h)

    module _ (no_on : on ≡ []) where
      pub in_spec : (failure : Failure Breach) → IsFirst (spec_faults known spec) failure → IsFirst (found_faults known row items spec tail) failure
      in_spec failure h =
          subst (λ (fs : List Breach). IsFirst fs failure) found_are
          (first_later on (spec_faults known spec ++ (names ++ last)) failure no_on (first_here (spec_faults known spec) (names ++ last) failure h))

      module _ (no_spec : spec_faults known spec ≡ []) where
        pub in_names : (failure : Failure Breach) → IsFirst names failure → IsFirst (found_faults known row items spec tail) failure
        in_names failure h =
            subst (λ (fs : List Breach). IsFirst fs failure) found_are
            (first_later on (spec_faults known spec ++ (names ++ last)) failure no_on
            (first_later (spec_faults known spec) (names ++ last) failure no_spec (first_here names last failure h)))

        module _ (no_names : names ≡ []) where
          pub in_tail : (failure : Failure Breach) → IsFirst last failure → IsFirst (found_faults known row items spec tail) failure
          in_tail failure h =
              subst (λ (fs : List Breach). IsFirst fs failure) found_are
              (first_later on (spec_faults known spec ++ (names ++ last)) failure no_on
              (first_later (spec_faults known spec) (names ++ last) failure no_spec (first_later names last failure no_names h)))

          pub nowhere : last ≡ [] → found_faults known row items spec tail ≡ []
          nowhere no_tail =
              sym found_are ∙ all_faultless on (spec_faults known spec ++ (names ++ last)) no_on
              (all_faultless (spec_faults known spec) (names ++ last) no_spec (all_faultless names last no_names no_tail))
