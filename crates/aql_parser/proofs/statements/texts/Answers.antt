use Rattle.std.proofs.Common.{◌+◌, ◌-◌, arith}
use Rattle.aql_parser.specs.Readers.{sees_sign}
use Rattle.aql_parser.specs.Reading.Statements.{a_text}
use Rattle.aql_parser.proofs.Lists.{list_stops, list_fails, list_begins, plain_list_returns, plain_list_continues}
use Rattle.aql_parser.proofs.statements.texts.Goals as goal

pub loop-turn-init : goal.loop-turn-init
loop-turn-init c =
    rw c.new-texts.ensures.items
    (list_begins (sees_sign ",") a_text (c.left-turn-end.result + 1 - 0) c.args.toks.now.at c.args.toks.now.kinds (omega (arith, c.left-turn-end.ensures.value)))

pub returns-then-not-eat : goal.returns-then-not-eat
returns-then-not-eat c =
    plain_list_returns (sees_sign ",") a_text _ _ _ c.in_ok-one.one _ _ _ _ _
    c.loop-turn.invariant c.loop-turn-test.true c.in_ok-push.ensures.items c.in_ok-one.ensures c.if-not-eat.ensures

pub loop-turn-preserved : goal.loop-turn-preserved
loop-turn-preserved c =
    plain_list_continues (sees_sign ",") a_text _ _ _ c.in_ok-one.one _ _ _ _ _
    c.loop-turn.invariant c.loop-turn-test.true c.in_ok-push.ensures.items c.in_ok-one.ensures c.if-not-eat.ensures

pub returns : goal.returns
returns c = list_stops (sees_sign ",") a_text _ _ _ _ _ _ c.loop-turn.invariant c.loop-turn-test.false

pub returns-in_err-one : goal.returns-in_err-one
returns-in_err-one c =
    list_fails c.from_residual.result c.in_err-one.field-0.0 (λ text. text) (λ texts. texts.items) (sees_sign ",") a_text _ _ _ _ _ _ _
    c.loop-turn.invariant c.loop-turn-test.true c.in_err-one.ensures c.from_residual.ensures.1
