use Rattle.std.proofs.Common.{ℕ, ◌<◌, []}
use Rattle.std.proofs.lemmas.List.Elements.{All-nil}
use Rattle.plan_maker.proofs.Giving.{valid-limit, gives-limit, gives-same, no-rows}
use Rattle.plan_maker.proofs.joining.no_row.Goals as goal

pub add-requires : goal.add-requires
add-requires c = record { valid = valid-limit _ _ _ _ c.in_ok-input.ensures.gives _ [] _ c.new.ensures (All-nil (λ (key : ℕ). key < 0)) }

pub returns-clause-gives : goal.returns-clause-gives
returns-clause-gives c = gives-same _ _ _ _ (λ lists doc. []) (λ lists doc. no-rows) (gives-limit _ _ _ _ c.in_ok-input.ensures.gives _ [] _ c.new.ensures _ _ c.in_ok-n.ensures.stands)
