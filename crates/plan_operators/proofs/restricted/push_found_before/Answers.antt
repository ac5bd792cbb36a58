use Rattle.std.proofs.Common.{◌∙◌, ◌-◌, ◌++◌, ℕ, List, length, take, sym, ap, ap₂, subst, arith}
use Rattle.std.specs.List.{All}
use Rattle.std.proofs.lemmas.List.Elements.{All-append, All-nil, All-take}
use Rattle.row_values.specs.Datums.{Datum, IsOfDocument}
use Rattle.row_values.specs.Rows.{RowList, RowsLieIn}
use Rattle.scalar_ops.specs.Tables.{Lists}
use Rattle.plan_operators.specs.Neighbourhoods.{rows_between}
use Rattle.plan_operators.proofs.Restricting.{found-behind, first-found}
use Rattle.plan_operators.proofs.restricted.push_found_before.Goals as goal

pub overflow_sub-number : goal.overflow_sub-number
overflow_sub-number c =
    let all = ap (λ (l : RowList). l.rows) c.in_ok-push_found_in.ensures.rows
    ∙ ap (λ (l : RowList). l.rows ++ rows_between c.args.tools.now c.args.doc.now c.args.local c.args.row.now c.args.past c.args.first c.args.past) c.new-here.ensures in
    let late = ap (λ (l : RowList). l.rows) c.in_ok-push_found_in-2.ensures.rows
    ∙ ap₂ (λ (l : RowList) (t : Lists). l.rows ++ rows_between t c.args.doc.now c.args.local c.args.row.now c.args.past c.args.stop c.args.past) c.new-behind.ensures c.in_ok-push_found_in.ensures.same in
    let fewer = found-behind c.args.tools.now c.args.doc.now c.args.local c.args.row.now c.args.past c.args.first c.args.stop c.requires.in_order c.requires.inside in
    omega (arith, c.len.ensures, c.len-2.ensures, fewer, ap length all, ap length late)

pub returns-clause-rows : goal.returns-clause-rows
returns-clause-rows c =
    let old = c.args.into.now in
    let all = ap (λ (l : RowList). l.rows) c.in_ok-push_found_in.ensures.rows
    ∙ ap (λ (l : RowList). l.rows ++ rows_between c.args.tools.now c.args.doc.now c.args.local c.args.row.now c.args.past c.args.first c.args.past) c.new-here.ensures in
    let late = ap (λ (l : RowList). l.rows) c.in_ok-push_found_in-2.ensures.rows
    ∙ ap₂ (λ (l : RowList) (t : Lists). l.rows ++ rows_between t c.args.doc.now c.args.local c.args.row.now c.args.past c.args.stop c.args.past) c.new-behind.ensures c.in_ok-push_found_in.ensures.same in
    let long = c.len.ensures ∙ ap length all in
    let short = c.len-2.ensures ∙ ap length late in
    let first = first-found c.args.tools.now c.args.doc.now c.args.local c.args.row.now c.args.past c.args.first c.args.stop c.requires.in_order c.requires.inside in
    c.in_ok-append_first.ensures
    ∙ ap (λ (rows : List (List Datum)). let list : RowList = record { width = old.width; rows = old.rows ++ rows } in list)
    (ap₂ (λ (n : ℕ) (rows : List (List Datum)). take n rows) (ap₂ (λ (a b : ℕ). a - b) long short) all ∙ first)

pub returns-clause-lies : goal.returns-clause-lies
returns-clause-lies c = λ lies.
    let doc = c.args.doc.now in
    let old = c.args.into.now in
    let here = c.in_ok-push_found_in.ensures.lies (subst (λ (l : RowList). RowsLieIn doc l.rows) (sym c.new-here.ensures) (All-nil (All (IsOfDocument doc)))) in
    subst (RowsLieIn doc) (sym (ap (λ (l : RowList). l.rows) c.in_ok-append_first.ensures))
    (All-append (All (IsOfDocument doc)) old.rows _ lies (All-take (All (IsOfDocument doc)) _ _ here))
