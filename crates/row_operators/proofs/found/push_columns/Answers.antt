use Rattle.std.proofs.Common.{◌≡◌, ◌∙◌, ◌++◌, ◌∷◌, ◌+◌, ℕ, List, [], map, length, take, All, ap, ap₂, sym, subst}
use Rattle.std.proofs.lemmas.List.{length-append, map-append, take_more}
use Rattle.std.proofs.lemmas.List.Elements.{All-append, All-cons, All-nil}
use Rattle.row_values.specs.Datums.{Datum, IsOfDocument, datum_of}
use Rattle.row_values.specs.Rows.{RowList, RowsLieIn}
use Rattle.aql_regex_extract.specs.Matches.{extents_of}
use Rattle.scalar_ops.specs.Values.{value}
use Rattle.scalar_ops.specs.Views.{term_of}
use Rattle.scalar_ops.specs.declared.expr.Expr.{Expr}
use Rattle.aql_typed.specs.Meaning.{group_value, row_of}
use Rattle.row_operators.proofs.found.push_columns.Goals as goal

pub loop-item-preserved : goal.loop-item-preserved
loop-item-preserved c =
    let row = c.loop-item.row in
    let items = c.args.items.now in
    let item = c.item-item.result in
    let i = c.loop-item.item-index in
    let v : Datum = datum_of c.value_at.result in
    let both = c.args.lead.now ++ map group_value (extents_of c.args.groups.now) in
    let put : c.push.new.self ≡ row ++ v ∷ [] = c.in_ok-push-in-Column.ensures.ok in
    let more : take (i + 1) items ≡ take i items ++ item ∷ [] =
    take_more items i item c.loop-item-test.true ∙ ap (λ (x : Expr). take i items ++ x ∷ []) (sym c.item-item.is) in
    record {
      row = λ lists doc.
          put
          ∙ (ap₂ (λ (xs : List Datum) (x : Datum). xs ++ x ∷ []) (c.loop-item.invariant.row lists doc)
          (c.value_at.ensures.value ∙ ap (λ (e : Expr). value lists doc both (term_of e)) (sym c.in-Column.is))
          ∙ (sym (map-append (value lists doc both) (map term_of (take i items)) (term_of item ∷ []))
          ∙ (ap (map (value lists doc both)) (sym (map-append term_of (take i items) (item ∷ [])))
          ∙ ap (λ (xs : List Expr). row_of lists doc (map term_of xs) both) (sym more))));
      lies = λ doc lead groups.
          subst (All (IsOfDocument doc)) (sym put)
          (All-append (IsOfDocument doc) row (v ∷ []) (c.loop-item.invariant.lies doc lead groups)
          (All-cons (IsOfDocument doc) v [] (c.value_at.ensures.lies doc lead groups) (All-nil (IsOfDocument doc))));
      long = ap length put ∙ (length-append row (v ∷ []) ∙ ap (λ (n : ℕ). n + 1) c.loop-item.invariant.long);
    }

pub returns-clause-lies : goal.returns-clause-lies
returns-clause-lies c = λ doc lead groups old.
    let row = c.loop-item.row in
    subst (λ (list : RowList). RowsLieIn doc list.rows) (sym c.in_ok-push.ensures.ok)
    (All-append (All (IsOfDocument doc)) c.args.into.now.rows (row ∷ []) old
    (All-cons (All (IsOfDocument doc)) row [] (c.loop-item.invariant.lies doc lead groups) (All-nil (All (IsOfDocument doc)))))
