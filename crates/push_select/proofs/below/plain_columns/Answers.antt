use Rattle.push_select.proofs.BelowViews.{columns-none, none_of}
use Rattle.push_select.proofs.below.plain_columns.Goals as goal

pub returns-in_default-clause-none : goal.returns-in_default-clause-none
returns-in_default-clause-none c =
    columns-none c.args.items.now c.loop-item.item-index c.item-item.result c.loop-item-test.true c.item-item.is (none_of c.column_of.result _ c.in_default.not-Some c.column_of.ensures)
