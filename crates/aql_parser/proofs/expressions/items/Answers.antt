use Rattle.std.proofs.Common.{arith, map}
use Rattle.aql_syntax.specs.Views.{item_of}
use Rattle.aql_parser.specs.Readers.{sees_sign}
use Rattle.aql_parser.specs.Reading.Expressions.{read_item}
use Rattle.aql_parser.proofs.Lists.{list_stops, list_fails, list_begins, list_returns, list_continues}
use Rattle.aql_parser.proofs.expressions.items.Goals as goal

pub loop-turn-init : goal.loop-turn-init
loop-turn-init c =
    rw c.new-items.ensures.items (list_begins (sees_sign ",") (read_item c.args.depth) _ _ _ (omega (arith, c.left-turn-end.ensures.value)))

pub returns-then-not-eat : goal.returns-then-not-eat
returns-then-not-eat c =
    list_returns item_of (sees_sign ",") (read_item c.args.depth) _ _ _ c.in_ok-one.one _ _ _ _ _
    c.loop-turn.invariant c.loop-turn-test.true c.in_ok-push.ensures.items c.in_ok-one.ensures c.if-not-eat.ensures

pub loop-turn-preserved : goal.loop-turn-preserved
loop-turn-preserved c =
    list_continues item_of (sees_sign ",") (read_item c.args.depth) _ _ _ c.in_ok-one.one _ _ _ _ _
    c.loop-turn.invariant c.loop-turn-test.true c.in_ok-push.ensures.items c.in_ok-one.ensures c.if-not-eat.ensures

pub returns : goal.returns
returns c = list_stops (sees_sign ",") (read_item c.args.depth) _ _ _ _ _ _ c.loop-turn.invariant c.loop-turn-test.false

pub returns-in_err-one : goal.returns-in_err-one
returns-in_err-one c =
    list_fails c.from_residual.result c.in_err-one.field-0.0 item_of (λ items. map item_of items.items) (sees_sign ",") (read_item c.args.depth) _ _ _ _ _ _ _
    c.loop-turn.invariant c.loop-turn-test.true c.in_err-one.ensures c.from_residual.ensures.1
