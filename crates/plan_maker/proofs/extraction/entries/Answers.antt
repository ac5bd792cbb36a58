use Rattle.std.proofs.Common.{◌∙◌, ℕ, List, [], ◌∷◌, ◌++◌, ap}
use Rattle.plan_maker.proofs.Giving.{gives-dict_part}
use Rattle.plan_maker.proofs.extraction.entries.Goals as goal

pub returns-clause-gives : goal.returns-clause-gives
returns-clause-gives c = λ can.
    gives-dict_part _ _ _ _ can.gives c.args.column c.args.number _ (c.in_ok-push.ensures.ok ∙ ap (λ (ds : List ℕ). ds ++ c.args.number ∷ []) c.new-dicts.ensures)
    _ _ c.in_ok-input.ensures.stands _ _ c.in_ok-n.ensures.stands
