use Rattle.std.proofs.Common.{◌∙◌, ◌++◌, ◌∷◌, ℕ, List, [], ap, sym}
use Rattle.aql_meaning.proofs.Columns.{counting_more}
use Rattle.aql_meaning.proofs.project.numbers.Goals as goal

pub loop-n-preserved : goal.loop-n-preserved
loop-n-preserved c =
    c.in_ok-push.ensures.items ∙ (ap (λ (all : List ℕ). all ++ c.loop-n.n ∷ []) c.loop-n.invariant ∙ sym (counting_more c.loop-n.n))
