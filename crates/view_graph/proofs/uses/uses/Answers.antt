use Rattle.std.proofs.Common.{◌∙◌, ◌+◌, ◌++◌, ◌∷◌, ap, sym, subst, List, map, take, drop, arith, All, ℕ}
use Rattle.std.proofs.lemmas.List.{length-map, take-map}
use Rattle.std.proofs.lemmas.Result.{err_from_is_err_and}
use Rattle.aql_syntax.specs.Trees.{Statement, require}
use Rattle.aql_syntax.specs.declared.tree.Statement as declared
use Rattle.aql_syntax.specs.Views.{statement_of}
use Rattle.view_graph.specs.Names.{IsDefined, names_looked_up, looked_up_by}
use Rattle.view_graph.specs.Answers.{IsNameFault}
use Rattle.view_graph.specs.Lookups.{AreViewsUsed, MentionsUndefined}
use Rattle.view_graph.proofs.Splits.{map_split, length-map_take, get_or-map_within}
use Rattle.view_graph.proofs.LookingUp.{graph_more, undefined_fault}
use Rattle.view_graph.proofs.Refusing.{OfFault-weaker}
use Rattle.view_graph.proofs.uses.uses.Goals as goal

pub loop-index-preserved : goal.loop-index-preserved
loop-index-preserved c =
    let x = c.index-statements-index in
    let program = map statement_of c.args.statements.now in
    graph_more program c.loop-index.index c.loop-index.uses.items c.push.new.self.items c.in_ok-used.used
    (omega (arith, length-map c.args.statements.now statement_of, c.loop-index-test.true)) c.loop-index.invariant
    (subst (λ (s : Statement). AreViewsUsed program s c.in_ok-used.used)
    (ap statement_of x.is ∙ sym (get_or-map_within statement_of c.args.statements.now c.loop-index.index x.result require c.loop-index-test.true))
    (c.in_ok-used.ensures.ok program c.requires.named))
    c.in_ok-push.ensures.items

pub returns-in_err-used-clause-fault : goal.returns-in_err-used-clause-fault
returns-in_err-used-clause-fault c =
    let p = err_from_is_err_and c.from_residual.result c.from_residual.ensures.1 in
    let x = c.index-statements-index in
    let i = c.loop-index.index in
    let program = map statement_of c.args.statements.now in
    let before = map statement_of (take i c.args.statements.now) in
    let after = map statement_of (drop (i + 1) c.args.statements.now) in
    rw (p.1, p.2) (OfFault-weaker (MentionsUndefined program (i + 1) (looked_up_by (statement_of x.result))) (IsNameFault program)
    (λ fault found. undefined_fault program before after (statement_of x.result) (i + 1) fault
    (sym (ap (λ (s : declared.Statement). before ++ statement_of s ∷ after) x.is ∙ map_split statement_of c.args.statements.now i x.result c.loop-index-test.true))
    (ap (λ (n : ℕ). n + 1) (sym (length-map_take statement_of c.args.statements.now i c.loop-index-test.true)))
    c.requires.named.distinct
    (subst (λ (statements : List Statement). All (IsDefined program) (names_looked_up statements)) (take-map statement_of i c.args.statements.now) c.loop-index.invariant.looked_up)
    found)
    c.in_err-used.field-0.0 (c.in_err-used.ensures.fault program c.requires.named))
