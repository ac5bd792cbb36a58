use Rattle.std.proofs.Common.{sym, arith, map}
use Rattle.aql_syntax.specs.Views.{item_of}
use Rattle.aql_parser.specs.Reading.Queries.{begins_sought, item_before, read_items_before}
use Rattle.aql_parser.proofs.Lists.{items_stop, items_fail, items_begin, items_return, items_continue}
use Rattle.aql_parser.proofs.queries.items_before.Goals as goal

pub loop-turn-init : goal.loop-turn-init
unfolding read_items_before
loop-turn-init c =
    rw c.new-items.ensures.items (items_begin begins_sought (item_before c.args.depth) _ _ _ (omega (arith, c.left-turn-end.ensures.value)))

pub returns-then-begins_sought : goal.returns-then-begins_sought
returns-then-begins_sought c =
    items_return item_of begins_sought (item_before c.args.depth) _ _ _ _ _ c.loop-turn.invariant c.loop-turn-test.true (sym c.if-begins_sought.ensures)

pub loop-turn-preserved : goal.loop-turn-preserved
loop-turn-preserved c =
    items_continue item_of begins_sought (item_before c.args.depth) _ _ _ _ _ c.loop-turn.invariant c.loop-turn-test.true (sym c.if-begins_sought.ensures)
    _ c.in_ok-one.one _ c.in_ok-push.ensures.items c.in_ok-one.ensures

pub returns : goal.returns
returns c = items_stop begins_sought (item_before c.args.depth) _ _ _ _ _ _ c.loop-turn.invariant c.loop-turn-test.false

pub returns-in_err-one : goal.returns-in_err-one
returns-in_err-one c =
    items_fail c.from_residual.result c.in_err-one.field-0.0 item_of (λ items. map item_of items.items) begins_sought (item_before c.args.depth) _ _ _ _ _ _ _
    c.loop-turn.invariant c.loop-turn-test.true (sym c.if-begins_sought.ensures) c.in_err-one.ensures c.from_residual.ensures.1
