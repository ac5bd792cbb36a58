use Rattle.std.proofs.Common.{◌∙◌, ◌++◌, ◌∷◌, ℕ, List, [], ap, sym, arith}
use Rattle.plan_maker.proofs.Numbers.{counting_more}
use Rattle.plan_maker.proofs.copying.first_numbers.Goals as goal

pub loop-number-preserved : goal.loop-number-preserved
loop-number-preserved c =
    c.in_ok-push.ensures.ok ∙ (ap (λ (all : List ℕ). all ++ c.loop-number.number ∷ []) c.loop-number.invariant ∙ sym (counting_more 0 c.loop-number.number c.loop-number.number (omega arith)))
