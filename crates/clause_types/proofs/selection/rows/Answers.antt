use Rattle.std.proofs.Common.{◌≡◌, ◌∙◌, List, [], map, ap, sym, subst}
use Rattle.aql_syntax.specs.declared.tree.Item as declared
use Rattle.aql_syntax.specs.Views.{item_of, clauses_of}
use Rattle.clause_types.specs.declared.item.CheckedItem.{CheckedItem}
use Rattle.clause_types.specs.Items.{duplicate_columns, names_of_items, select_item}
use Rattle.clause_types.specs.Knowns.{known_of}
use Rattle.clause_types.specs.Refusals.{IsFirst}
use Rattle.clause_types.specs.Selections.{scope_with, clause_faults, rows_faults}
use Rattle.clause_types.specs.Views.{scope_of, item_seen}
use Rattle.clause_types.specs.FaultLaws.{raised}
use Rattle.clause_types.proofs.RowFaults.{in_names, in_clauses, nowhere}
use Rattle.clause_types.proofs.selection.rows.Goals as goal

pub returns-in_err-refuse_repeated-clause-fault : goal.returns-in_err-refuse_repeated-clause-fault
returns-in_err-refuse_repeated-clause-fault c =
    let known = known_of c.args.known.now in
    let row = scope_of c.args.row.now in
    let items = map item_of c.args.query.now.items.items in
    let clauses = clauses_of c.args.query.now in
    let checked = c.in_ok-checked.checked.items in
    let failure = c.in_err-refuse_repeated.field-0.0 in
    let are = ap (λ (xs : List declared.Item). map (select_item known row) (map item_of xs)) (sym c.deref.ensures.value) ∙ c.in_ok-checked.ensures.ok in
    raised c.from_residual-in_err-refuse_repeated.result (rows_faults known row items clauses) failure c.from_residual-in_err-refuse_repeated.ensures.1
    (in_names known row items clauses checked are failure
    (subst (λ (ys : List CheckedItem). IsFirst (duplicate_columns (names_of_items (map item_seen ys))) failure) c.deref-2.ensures.value c.in_err-refuse_repeated.ensures.fault))

pub returns-in_err-parts-clause-fault : goal.returns-in_err-parts-clause-fault
returns-in_err-parts-clause-fault c =
    let known = known_of c.args.known.now in
    let row = scope_of c.args.row.now in
    let items = map item_of c.args.query.now.items.items in
    let clauses = clauses_of c.args.query.now in
    let checked = c.in_ok-checked.checked.items in
    let failure = c.in_err-parts.field-0.0 in
    let are = ap (λ (xs : List declared.Item). map (select_item known row) (map item_of xs)) (sym c.deref.ensures.value) ∙ c.in_ok-checked.ensures.ok in
    raised c.from_residual-in_err-parts.result (rows_faults known row items clauses) failure c.from_residual-in_err-parts.ensures.1
    (in_clauses known row items clauses checked are failure
    (subst (λ (ys : List CheckedItem). duplicate_columns (names_of_items (map item_seen ys)) ≡ []) c.deref-2.ensures.value c.in_ok-refuse_repeated.ensures.ok)
    (subst (λ (ys : List CheckedItem). IsFirst (clause_faults known row (scope_with row (map item_seen ys)) items (map item_seen ys) clauses) failure) c.deref-4.ensures.value c.in_err-parts.ensures.fault))

pub returns-clause-none : goal.returns-clause-none
returns-clause-none c =
    let known = known_of c.args.known.now in
    let row = scope_of c.args.row.now in
    let items = map item_of c.args.query.now.items.items in
    let clauses = clauses_of c.args.query.now in
    let checked = c.in_ok-checked.checked.items in
    let are = ap (λ (xs : List declared.Item). map (select_item known row) (map item_of xs)) (sym c.deref.ensures.value) ∙ c.in_ok-checked.ensures.ok in
    nowhere known row items clauses checked are
    (subst (λ (ys : List CheckedItem). duplicate_columns (names_of_items (map item_seen ys)) ≡ []) c.deref-2.ensures.value c.in_ok-refuse_repeated.ensures.ok)
    (subst (λ (ys : List CheckedItem). clause_faults known row (scope_with row (map item_seen ys)) items (map item_seen ys) clauses ≡ []) c.deref-4.ensures.value c.in_ok-parts.ensures.none)
