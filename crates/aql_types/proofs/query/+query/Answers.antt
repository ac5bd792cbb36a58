use Rattle.std.proofs.Common.{◌≡◌, ◌∙◌, List, map, ap, sym, subst, IfOk, IfErr}
use Rattle.aql_syntax.specs.declared.tree.Query as declared
use Rattle.aql_syntax.specs.Views.{query_of}
use Rattle.clause_types.specs.Knowns.{known_of}
use Rattle.aql_types.specs.Programs.{view_seen}
use Rattle.aql_types.specs.Queries.{typing_of_query, union_of}
use Rattle.clause_types.specs.Refusals.{IsFirst}
use Rattle.aql_types.specs.QueryTypings.{QueryTyping}
use Rattle.aql_types.specs.Sources.{query_seen}
use Rattle.aql_types.proofs.QueryNodes.{select_typing, union_typing}
use Rattle.aql_types.proofs.query.+query.Goals as goal

pub query-returns-in-Select-clause-ok : goal.query-returns-in-Select-clause-ok
query-returns-in-Select-clause-ok t c =
    let known = known_of c.args.known.now in
    let below = map view_seen c.args.below.now in
    let is = ap (λ (q : declared.Query). typing_of_query known below (query_of q)) c.in-Select.is ∙ select_typing known below c.in-Select.query in
    subst (λ (x : QueryTyping). IfOk c.selected.result (λ q. x ≡ query_seen q)) (sym is) c.selected.ensures.ok

pub query-returns-in-Select-clause-fault : goal.query-returns-in-Select-clause-fault
query-returns-in-Select-clause-fault t c =
    let known = known_of c.args.known.now in
    let below = map view_seen c.args.below.now in
    let is = ap (λ (q : declared.Query). typing_of_query known below (query_of q)) c.in-Select.is ∙ select_typing known below c.in-Select.query in
    subst (λ (x : QueryTyping). IfErr c.selected.result (IsFirst x.faults)) (sym is) c.selected.ensures.fault

pub query-returns-in-Union-clause-ok : goal.query-returns-in-Union-clause-ok
query-returns-in-Union-clause-ok t c =
    let known = known_of c.args.known.now in
    let below = map view_seen c.args.below.now in
    let is = ap (λ (q : declared.Query). typing_of_query known below (query_of q)) c.in-Union.is
    ∙ (union_typing known below c.in-Union.sides
    ∙ ap (λ (qs : List declared.Query). union_of (map (typing_of_query known below) (map query_of qs))) (sym c.deref.ensures.value)) in
    subst (λ (x : QueryTyping). IfOk c.united.result (λ q. x ≡ query_seen q)) (sym is) c.united.ensures.ok

pub query-returns-in-Union-clause-fault : goal.query-returns-in-Union-clause-fault
query-returns-in-Union-clause-fault t c =
    let known = known_of c.args.known.now in
    let below = map view_seen c.args.below.now in
    let is = ap (λ (q : declared.Query). typing_of_query known below (query_of q)) c.in-Union.is
    ∙ (union_typing known below c.in-Union.sides
    ∙ ap (λ (qs : List declared.Query). union_of (map (typing_of_query known below) (map query_of qs))) (sym c.deref.ensures.value)) in
    subst (λ (x : QueryTyping). IfErr c.united.result (IsFirst x.faults)) (sym is) c.united.ensures.fault
