use Rattle.plan_maker.proofs.Giving.{valid-limit, gives-limit}
use Rattle.plan_maker.proofs.selection.limited.Goals as goal

pub add-requires : goal.add-requires
add-requires c = record { valid = valid-limit _ _ _ _ c.requires.can.gives _ c.args.order.now _ c.in_ok-keys.ensures c.requires.can.wanted }

pub returns-clause-gives : goal.returns-clause-gives
returns-clause-gives c = λ can. gives-limit _ _ _ _ can.gives _ c.args.order.now _ c.in_ok-keys.ensures _ _ c.in_ok-n.ensures.stands
