use Rattle.std.proofs.Common.{◌≡◌, ◌∙◌, ◌++◌, ◌∷◌, [], ◌<◌, ap, sym, subst, List, ℕ, map, take, length, get_or, arith}
use Rattle.std.specs.List.{AllZip}
use Rattle.std.proofs.lemmas.Bool.{cases_lt}
use Rattle.std.proofs.lemmas.List.{take_more, length-map}
use Rattle.aql_syntax.specs.Trees.{require}
use Rattle.aql_syntax.specs.Views.{statement_of}
use Rattle.view_graph.specs.Names.{view_named, defined_by}
use Rattle.view_graph.specs.Uses.{CreatesView, statement_at}
use Rattle.view_graph.proofs.Defining.{creates_within}
use Rattle.view_graph.proofs.Splits.{get_or-map_within}
use Rattle.view_graph.proofs.Relations.{AllZip-push_named}
use Rattle.view_graph.proofs.cycle.names_of.Goals as goal

pub bounds-statements-view : goal.bounds-statements-view
bounds-statements-view c =
    let program = map statement_of c.args.statements.now in
    let view = get_or c.args.cycle.now c.loop-view.view-index 0 in
    let h = c.requires c.loop-view.view-index 0 c.loop-view-test.true in
    let within = creates_within program require view h.0 h.1 (cases_lt view (length program)) in
    omega (arith, within, length-map c.args.statements.now statement_of)

pub loop-view-preserved : goal.loop-view-preserved
loop-view-preserved c =
    let program = map statement_of c.args.statements.now in
    let i = c.loop-view.view-index in
    let view = get_or c.args.cycle.now i 0 in
    let h = c.requires i 0 c.loop-view-test.true in
    let within = creates_within program require view h.0 h.1 (cases_lt view (length program)) in
    let x = c.index-statements-view in
    let inside : view < length c.args.statements.now = omega (arith, within, length-map c.args.statements.now statement_of) in
    let there : statement_at program view ≡ statement_of x.result = get_or-map_within statement_of c.args.statements.now view x.result require inside ∙ sym (ap statement_of x.is) in
    let text : c.view_name.result.now ≡ h.0 = c.view_name.ensures h.0 (sym (ap defined_by there) ∙ h.1) in
    let named : CreatesView program view c.in_ok-name.name = h.1 ∙ ap (λ (n : List ℕ). view_named n ∷ []) (sym (c.in_ok-name.ensures ∙ text)) in
    subst (λ (ps : List ℕ). AllZip (CreatesView program) ps c.push.new.self) (sym (take_more c.args.cycle.now i 0 c.loop-view-test.true))
    (subst (λ (vs : List (List ℕ)). AllZip (CreatesView program) (take i c.args.cycle.now ++ view ∷ []) vs) (sym c.in_ok-push.ensures.ok)
    (AllZip-push_named (CreatesView program) (take i c.args.cycle.now) c.loop-view.views view c.in_ok-name.name c.loop-view.invariant named))
