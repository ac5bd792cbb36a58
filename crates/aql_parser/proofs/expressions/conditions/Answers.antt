use Rattle.std.proofs.Common.{arith, map}
use Rattle.aql_syntax.specs.Views.{term_of}
use Rattle.aql_parser.specs.Readers.{sees}
use Rattle.aql_parser.specs.Reading.Expressions.{read_term}
use Rattle.aql_parser.proofs.Lists.{list_stops, list_fails, list_begins, list_returns, list_continues}
use Rattle.aql_parser.proofs.expressions.conditions.Goals as goal

pub loop-turn-init : goal.loop-turn-init
loop-turn-init c =
    rw c.new-conds.ensures.items (list_begins (sees "and") (read_term c.args.depth) _ _ _ (omega (arith, c.left-turn-end.ensures.value)))

pub returns-then-not-eat_word : goal.returns-then-not-eat_word
returns-then-not-eat_word c =
    list_returns term_of (sees "and") (read_term c.args.depth) _ _ _ c.in_ok-cond.cond _ _ _ _ _
    c.loop-turn.invariant c.loop-turn-test.true c.in_ok-push.ensures.items c.in_ok-cond.ensures c.if-not-eat_word.ensures

pub loop-turn-preserved : goal.loop-turn-preserved
loop-turn-preserved c =
    list_continues term_of (sees "and") (read_term c.args.depth) _ _ _ c.in_ok-cond.cond _ _ _ _ _
    c.loop-turn.invariant c.loop-turn-test.true c.in_ok-push.ensures.items c.in_ok-cond.ensures c.if-not-eat_word.ensures

pub returns : goal.returns
returns c = list_stops (sees "and") (read_term c.args.depth) _ _ _ _ _ _ c.loop-turn.invariant c.loop-turn-test.false

pub returns-in_err-cond : goal.returns-in_err-cond
returns-in_err-cond c =
    list_fails c.from_residual.result c.in_err-cond.field-0.0 term_of (λ conds. map term_of conds.items) (sees "and") (read_term c.args.depth) _ _ _ _ _ _ _
    c.loop-turn.invariant c.loop-turn-test.true c.in_err-cond.ensures c.from_residual.ensures.1
