use Rattle.std.proofs.Common.{◌≡◌, ◌∙◌, List, map, ap, ap₂, sym, subst, IfOk, IfErr}
use Rattle.aql_syntax.specs.declared.tree.Ast.{Ast}
use Rattle.aql_syntax.specs.Trees.{Name}
use Rattle.aql_syntax.specs.Views.{term_of}
use Rattle.clause_types.specs.Expressions.{typing}
use Rattle.clause_types.specs.Functions.{aggregate_named}
use Rattle.clause_types.specs.Items.{aggregate_item}
use Rattle.clause_types.specs.Refusals.{IsFirst}
use Rattle.clause_types.specs.Knowns.{known_of}
use Rattle.clause_types.specs.Typings.{ItemTyping}
use Rattle.clause_types.specs.Views.{scope_of, item_seen}
use Rattle.clause_types.proofs.Told.{select_aggregate}
use Rattle.clause_types.proofs.item.select_item.Goals as goal

pub returns-in_ok-label-in-Some-clause-ok : goal.returns-in_ok-label-in-Some-clause-ok
returns-in_ok-label-in-Some-clause-ok c =
    let known = known_of c.args.known.now in
    let scope = scope_of c.args.scope.now in
    let item = c.args.item.now in
    let named = ap aggregate_named (sym c.as_str.ensures) ∙ (sym c.aggregate_named.ensures ∙ c.in-Some.is) in
    let is = select_aggregate known scope item c.in-Call.name c.in-Call.args c.in-Some.aggregate c.in-Call.is named
    ∙ ap₂ (λ (n : Name) (xs : List Ast). aggregate_item known n item.expr.at c.in-Some.aggregate (map (typing known scope) (map term_of xs)))
    (sym c.in_ok-label-in-Some.ensures) (sym c.deref.ensures.value) in
    subst (λ (x : ItemTyping). IfOk c.aggregated.result (λ checked. x ≡ item_seen checked)) (sym is) c.aggregated.ensures.ok

pub returns-in_ok-label-in-Some-clause-fault : goal.returns-in_ok-label-in-Some-clause-fault
returns-in_ok-label-in-Some-clause-fault c =
    let known = known_of c.args.known.now in
    let scope = scope_of c.args.scope.now in
    let item = c.args.item.now in
    let named = ap aggregate_named (sym c.as_str.ensures) ∙ (sym c.aggregate_named.ensures ∙ c.in-Some.is) in
    let is = select_aggregate known scope item c.in-Call.name c.in-Call.args c.in-Some.aggregate c.in-Call.is named
    ∙ ap₂ (λ (n : Name) (xs : List Ast). aggregate_item known n item.expr.at c.in-Some.aggregate (map (typing known scope) (map term_of xs)))
    (sym c.in_ok-label-in-Some.ensures) (sym c.deref.ensures.value) in
    subst (λ (x : ItemTyping). IfErr c.aggregated.result (IsFirst x.faults)) (sym is) c.aggregated.ensures.fault
