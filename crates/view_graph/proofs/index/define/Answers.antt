use Rattle.std.proofs.Common.{◌∙◌, ◌+◌, ◌++◌, ◌∷◌, [], ap, sym, subst, List, map, take, drop}
use Rattle.std.proofs.lemmas.Result.{err_from_is_err_and}
use Rattle.aql_syntax.specs.Trees.{Statement}
use Rattle.aql_syntax.specs.declared.tree.Statement as declared
use Rattle.aql_syntax.specs.Views.{statement_of}
use Rattle.span_token.specs.Refusals.{OfFault}
use Rattle.view_graph.specs.Answers.{IsNameFault}
use Rattle.view_graph.specs.Indexes.{entry_of, IndexesNames}
use Rattle.view_graph.proofs.Splits.{map-take_more, map_split, length-map_take}
use Rattle.view_graph.proofs.index.define.Goals as goal

pub loop-index-preserved : goal.loop-index-preserved
loop-index-preserved c =
    let x = c.index-statements-index in
    let more = c.in_ok-define.ensures.ok (map statement_of (take c.loop-index.index c.args.statements.now))
    (length-map_take statement_of c.args.statements.now c.loop-index.index c.loop-index-test.true) c.loop-index.invariant in
    subst (λ (before : List Statement). IndexesNames before (entry_of c.define.new.self.views) (entry_of c.define.new.self.dictionaries))
    (ap (λ (s : declared.Statement). map statement_of (take c.loop-index.index c.args.statements.now) ++ statement_of s ∷ []) x.is
    ∙ sym (map-take_more statement_of c.args.statements.now c.loop-index.index x.result c.loop-index-test.true)) more

pub returns-in_err-define-clause-fault : goal.returns-in_err-define-clause-fault
returns-in_err-define-clause-fault c =
    let p = err_from_is_err_and c.from_residual-in_err-define.result c.from_residual-in_err-define.ensures.1 in
    let x = c.index-statements-index in
    let before = map statement_of (take c.loop-index.index c.args.statements.now) in
    let after = map statement_of (drop (c.loop-index.index + 1) c.args.statements.now) in
    rw (p.1, p.2) (subst (λ (program : List Statement). OfFault (IsNameFault program) c.in_err-define.field-0.0)
    (ap (λ (s : declared.Statement). before ++ statement_of s ∷ after) x.is
    ∙ map_split statement_of c.args.statements.now c.loop-index.index x.result c.loop-index-test.true)
    (c.in_err-define.ensures.fault before after (length-map_take statement_of c.args.statements.now c.loop-index.index c.loop-index-test.true) c.loop-index.invariant))
