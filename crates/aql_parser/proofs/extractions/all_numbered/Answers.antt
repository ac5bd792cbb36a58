use Rattle.std.proofs.Common.{arith, map}
use Rattle.aql_syntax.specs.Views.{group_of}
use Rattle.aql_parser.specs.Readers.{sees}
use Rattle.aql_parser.specs.Reading.Extractions.{read_numbered}
use Rattle.aql_parser.proofs.Lists.{list_stops, list_fails, list_begins, list_returns, list_continues}
use Rattle.aql_parser.proofs.extractions.all_numbered.Goals as goal

pub loop-turn-init : goal.loop-turn-init
loop-turn-init c =
    rw c.new-groups.ensures.items (list_begins (sees "and") (read_numbered) _ _ _ (omega (arith, c.left-turn-end.ensures.value)))

pub returns-then-not-eat_word : goal.returns-then-not-eat_word
returns-then-not-eat_word c =
    list_returns group_of (sees "and") (read_numbered) _ _ _ c.in_ok-group.group _ _ _ _ _
    c.loop-turn.invariant c.loop-turn-test.true c.in_ok-push.ensures.items c.in_ok-group.ensures c.if-not-eat_word.ensures

pub loop-turn-preserved : goal.loop-turn-preserved
loop-turn-preserved c =
    list_continues group_of (sees "and") (read_numbered) _ _ _ c.in_ok-group.group _ _ _ _ _
    c.loop-turn.invariant c.loop-turn-test.true c.in_ok-push.ensures.items c.in_ok-group.ensures c.if-not-eat_word.ensures

pub returns : goal.returns
returns c = list_stops (sees "and") read_numbered _ _ _ _ _ _ c.loop-turn.invariant c.loop-turn-test.false

pub returns-in_err-group : goal.returns-in_err-group
returns-in_err-group c =
    list_fails c.from_residual.result c.in_err-group.field-0.0 group_of (λ groups. map group_of groups.items) (sees "and") read_numbered _ _ _ _ _ _ _
    c.loop-turn.invariant c.loop-turn-test.true c.in_err-group.ensures c.from_residual.ensures.1
