use Rattle.std.proofs.Common.{◌≡◌, ◌∙◌, ◌++◌, List, [], map, ap, sym, subst}
use Rattle.aql_syntax.specs.Trees as tree
use Rattle.aql_syntax.specs.declared.tree.Item as declared
use Rattle.aql_syntax.specs.Views.{item_of, spec_of, tail_of}
use Rattle.aql_typed.specs.declared.tree.Column.{Column}
use Rattle.clause_types.specs.declared.item.CheckedItem.{CheckedItem}
use Rattle.clause_types.specs.Extractions.{items_beside, names_found, columns_found, column_scope, tail_faults, found_faults}
use Rattle.clause_types.specs.Items.{duplicate_columns, names_of_items, columns_of_items, extract_item}
use Rattle.clause_types.specs.Knowns.{known_of}
use Rattle.clause_types.specs.Refusals.{IsFirst}
use Rattle.clause_types.specs.Views.{scope_of, item_seen}
use Rattle.clause_types.specs.FaultLaws.{raised}
use Rattle.clause_types.proofs.FoundFaults.{in_column, in_spec, in_names, in_tail, nowhere}
use Rattle.clause_types.proofs.extraction.found.Goals as goal

pub returns-in_err-column-clause-fault : goal.returns-in_err-column-clause-fault
returns-in_err-column-clause-fault c =
    let known = known_of c.args.known.now in
    let row = scope_of c.args.row.now in
    let items = map item_of c.args.query.now.items.items in
    let spec = spec_of c.args.query.now.spec in
    let tail = tail_of c.args.query.now in
    let checked = c.in_ok-checked.checked.items in
    let are = ap (λ (xs : List declared.Item). map (extract_item known row) (items_beside spec (map item_of xs))) (sym c.deref.ensures.value)
    ∙ (ap (λ (xs : List tree.Item). map (extract_item known row) xs) (sym c.items_beside.ensures) ∙ c.in_ok-checked.ensures.ok) in
    let failure = c.in_err-column.field-0.0 in
    raised c.from_residual-in_err-column.result (found_faults known row items spec tail) failure c.from_residual-in_err-column.ensures.1
    (in_column known row items spec tail checked are failure c.in_err-column.ensures.fault)

pub returns-in_err-extraction-clause-fault : goal.returns-in_err-extraction-clause-fault
returns-in_err-extraction-clause-fault c =
    let known = known_of c.args.known.now in
    let row = scope_of c.args.row.now in
    let items = map item_of c.args.query.now.items.items in
    let spec = spec_of c.args.query.now.spec in
    let tail = tail_of c.args.query.now in
    let checked = c.in_ok-checked.checked.items in
    let are = ap (λ (xs : List declared.Item). map (extract_item known row) (items_beside spec (map item_of xs))) (sym c.deref.ensures.value)
    ∙ (ap (λ (xs : List tree.Item). map (extract_item known row) xs) (sym c.items_beside.ensures) ∙ c.in_ok-checked.ensures.ok) in
    let failure = c.in_err-extraction.field-0.0 in
    raised c.from_residual-in_err-extraction.result (found_faults known row items spec tail) failure c.from_residual-in_err-extraction.ensures.1
    (in_spec known row items spec tail checked are c.in_ok-column.ensures.none failure c.in_err-extraction.ensures.fault)

pub returns-in_err-refuse_names-clause-fault : goal.returns-in_err-refuse_names-clause-fault
returns-in_err-refuse_names-clause-fault c =
    let known = known_of c.args.known.now in
    let row = scope_of c.args.row.now in
    let items = map item_of c.args.query.now.items.items in
    let spec = spec_of c.args.query.now.spec in
    let tail = tail_of c.args.query.now in
    let checked = c.in_ok-checked.checked.items in
    let are = ap (λ (xs : List declared.Item). map (extract_item known row) (items_beside spec (map item_of xs))) (sym c.deref.ensures.value)
    ∙ (ap (λ (xs : List tree.Item). map (extract_item known row) xs) (sym c.items_beside.ensures) ∙ c.in_ok-checked.ensures.ok) in
    let failure = c.in_err-refuse_names.field-0.0 in
    raised c.from_residual-in_err-refuse_names.result (found_faults known row items spec tail) failure c.from_residual-in_err-refuse_names.ensures.1
    (in_names known row items spec tail checked are c.in_ok-column.ensures.none c.in_ok-extraction.ensures.none failure
    (subst (λ (ys : List CheckedItem). IsFirst (duplicate_columns (names_of_items (map item_seen ys) ++ names_found spec)) failure) c.deref-2.ensures.value c.in_err-refuse_names.ensures.fault))

pub returns-in_err-tail-clause-fault : goal.returns-in_err-tail-clause-fault
returns-in_err-tail-clause-fault c =
    let known = known_of c.args.known.now in
    let row = scope_of c.args.row.now in
    let items = map item_of c.args.query.now.items.items in
    let spec = spec_of c.args.query.now.spec in
    let tail = tail_of c.args.query.now in
    let checked = c.in_ok-checked.checked.items in
    let are = ap (λ (xs : List declared.Item). map (extract_item known row) (items_beside spec (map item_of xs))) (sym c.deref.ensures.value)
    ∙ (ap (λ (xs : List tree.Item). map (extract_item known row) xs) (sym c.items_beside.ensures) ∙ c.in_ok-checked.ensures.ok) in
    let failure = c.in_err-tail.field-0.0 in
    raised c.from_residual-in_err-tail.result (found_faults known row items spec tail) failure c.from_residual-in_err-tail.ensures.1
    (in_tail known row items spec tail checked are c.in_ok-column.ensures.none c.in_ok-extraction.ensures.none
    (subst (λ (ys : List CheckedItem). duplicate_columns (names_of_items (map item_seen ys) ++ names_found spec) ≡ []) c.deref-2.ensures.value c.in_ok-refuse_names.ensures.ok) failure
    (subst (λ (columns : List Column). IsFirst (tail_faults known (column_scope columns) tail) failure)
    (c.deref-4.ensures.value ∙ (c.in_ok-columns.ensures ∙ ap (λ (ys : List CheckedItem). columns_of_items (map item_seen ys) ++ columns_found spec) c.deref-3.ensures.value)) c.in_err-tail.ensures.fault))

pub returns-clause-none : goal.returns-clause-none
returns-clause-none c =
    let known = known_of c.args.known.now in
    let row = scope_of c.args.row.now in
    let items = map item_of c.args.query.now.items.items in
    let spec = spec_of c.args.query.now.spec in
    let tail = tail_of c.args.query.now in
    let checked = c.in_ok-checked.checked.items in
    let are = ap (λ (xs : List declared.Item). map (extract_item known row) (items_beside spec (map item_of xs))) (sym c.deref.ensures.value)
    ∙ (ap (λ (xs : List tree.Item). map (extract_item known row) xs) (sym c.items_beside.ensures) ∙ c.in_ok-checked.ensures.ok) in
    nowhere known row items spec tail checked are c.in_ok-column.ensures.none c.in_ok-extraction.ensures.none
    (subst (λ (ys : List CheckedItem). duplicate_columns (names_of_items (map item_seen ys) ++ names_found spec) ≡ []) c.deref-2.ensures.value c.in_ok-refuse_names.ensures.ok)
    (subst (λ (columns : List Column). tail_faults known (column_scope columns) tail ≡ [])
    (c.deref-4.ensures.value ∙ (c.in_ok-columns.ensures ∙ ap (λ (ys : List CheckedItem). columns_of_items (map item_seen ys) ++ columns_found spec) c.deref-3.ensures.value)) c.in_ok-tail.ensures.none)
