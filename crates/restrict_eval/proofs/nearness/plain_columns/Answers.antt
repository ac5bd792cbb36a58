use Rattle.std.proofs.Common.{sym}
use Rattle.restrict_eval.proofs.Fates.{plain_more, plain_stopped}
use Rattle.restrict_eval.proofs.nearness.plain_columns.Goals as goal

pub returns-in_default : goal.returns-in_default
returns-in_default c =
    sym (plain_stopped c.args.items.now c.loop-item.item-index c.item-item.result c.loop-item.columns c.loop-item-test.true c.item-item.is c.in_default.not-Column c.loop-item.invariant)

pub loop-item-preserved : goal.loop-item-preserved
loop-item-preserved c =
    plain_more c.args.items.now c.loop-item.item-index c.item-item.result c.in-Column.n c.loop-item.columns c.push.new.self c.loop-item-test.true c.item-item.is c.in-Column.is c.in_ok-push-in-Column.ensures.ok c.loop-item.invariant
