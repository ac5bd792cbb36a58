use Rattle.std.proofs.Common.{◌∙◌, [], map, ap}
use Rattle.scalar_ops.specs.Views.{term_of}
use Rattle.plan_maker.proofs.Giving.{gives-project}
use Rattle.plan_maker.proofs.joining.empty_row.Goals as goal

pub returns-clause-gives : goal.returns-clause-gives
returns-clause-gives c = gives-project _ _ _ _ c.requires.document _ [] (c.from-items.ensures ∙ ap (map term_of) c.new.ensures.items) _ _ c.in_ok-n.ensures.stands
