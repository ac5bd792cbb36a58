use Rattle.std.proofs.Common.{sym, subst, List, ℕ, map, length}
use Rattle.std.proofs.lemmas.List.{length-map}
use Rattle.aql_syntax.specs.Views.{statement_of}
use Rattle.view_graph.specs.declared.search.Mark.{Mark}
use Rattle.view_graph.specs.declared.search.Walk.{Walk}
use Rattle.view_graph.specs.Names.{AllDiffer}
use Rattle.view_graph.specs.Graphs.{IsClosed}
use Rattle.view_graph.specs.Search.{Edge, IsDone}
use Rattle.view_graph.specs.Lookups.{IsUseGraph}
use Rattle.view_graph.specs.Orders.{IsNumbering}
use Rattle.view_graph.specs.Circles.{IsBegunAtLeast, AreViews}
use Rattle.view_graph.specs.Walks.{IsWalk}
use Rattle.view_graph.specs.Uses.{CreatesView}
use Rattle.std.specs.List.{AllZip}
use Rattle.view_graph.proofs.Relations.{is_graph}
use Rattle.view_graph.proofs.Resolving.{resolved, are_views, cycle_fault}
use Rattle.view_graph.proofs.graph.views_in_order.Goals as goal

pub rank_all-requires-clause-graph : goal.rank_all-requires-clause-graph
rank_all-requires-clause-graph c =
    let program = map statement_of c.args.statements.now in
    is_graph program c.args.uses.now (subst (λ (n : ℕ). IsUseGraph program n c.args.uses.now) (sym (length-map c.args.statements.now statement_of)) c.requires.graph)

pub names_of-requires : goal.names_of-requires
names_of-requires c =
    let program = map statement_of c.args.statements.now in
    let graph : IsUseGraph program (length program) c.args.uses.now = subst (λ (n : ℕ). IsUseGraph program n c.args.uses.now) (sym (length-map c.args.statements.now statement_of)) c.requires.graph in
    let walk : IsClosed (Edge c.args.uses.now) c.in-Circle.circle.items × AllDiffer c.in-Circle.circle.items = subst (λ (w : Walk). IsWalk c.args.uses.now w) c.in-Circle.is c.in_ok-marks.ensures in
    let begun : IsBegunAtLeast c.in-Circle.circle.items c.in_ok-cycle-in-Circle.cycle.items =
    subst (λ (ps : List ℕ). IsBegunAtLeast ps c.in_ok-cycle-in-Circle.cycle.items) c.deref-in-Circle.ensures.value c.in_ok-cycle-in-Circle.ensures in
    subst (λ (ps : List ℕ). AreViews program ps) (sym c.deref-in-Circle-2.ensures.value)
    (are_views program c.args.uses.now graph c.requires.outputs c.in-Circle.circle.items c.in_ok-cycle-in-Circle.cycle.items walk.0 walk.1 begun)

pub returns-in_ok-order-in-Ranked-clause-ok : goal.returns-in_ok-order-in-Ranked-clause-ok
returns-in_ok-order-in-Ranked-clause-ok c =
    let program = map statement_of c.args.statements.now in
    let graph : IsUseGraph program (length program) c.args.uses.now = subst (λ (n : ℕ). IsUseGraph program n c.args.uses.now) (sym (length-map c.args.statements.now statement_of)) c.requires.graph in
    let walk : IsDone c.args.uses.now c.in-Ranked.marks.items = subst (λ (w : Walk). IsWalk c.args.uses.now w) c.in-Ranked.is c.in_ok-marks.ensures in
    resolved program c.args.uses.now graph c.requires.outputs c.in-Ranked.marks.items c.in_ok-order-in-Ranked.order.items walk
    (subst (λ (ms : List Mark). IsNumbering program ms c.in_ok-order-in-Ranked.order.items) c.deref.ensures.value c.in_ok-order-in-Ranked.ensures)

pub returns-in_ok-views-in-Circle-clause-fault : goal.returns-in_ok-views-in-Circle-clause-fault
returns-in_ok-views-in-Circle-clause-fault c =
    let program = map statement_of c.args.statements.now in
    let graph : IsUseGraph program (length program) c.args.uses.now = subst (λ (n : ℕ). IsUseGraph program n c.args.uses.now) (sym (length-map c.args.statements.now statement_of)) c.requires.graph in
    let walk : IsClosed (Edge c.args.uses.now) c.in-Circle.circle.items × AllDiffer c.in-Circle.circle.items = subst (λ (w : Walk). IsWalk c.args.uses.now w) c.in-Circle.is c.in_ok-marks.ensures in
    let begun : IsBegunAtLeast c.in-Circle.circle.items c.in_ok-cycle-in-Circle.cycle.items =
    subst (λ (ps : List ℕ). IsBegunAtLeast ps c.in_ok-cycle-in-Circle.cycle.items) c.deref-in-Circle.ensures.value c.in_ok-cycle-in-Circle.ensures in
    cycle_fault program c.args.uses.now graph c.requires.outputs c.in-Circle.circle.items c.in_ok-cycle-in-Circle.cycle.items walk.0 walk.1 begun c.in_ok-views-in-Circle.views
    (subst (λ (ps : List ℕ). AllZip (CreatesView program) ps c.in_ok-views-in-Circle.views) c.deref-in-Circle-2.ensures.value c.in_ok-views-in-Circle.ensures)
