use Rattle.std.proofs.Common.{◌≡◌, ◌∙◌, ℕ, List, [], ◌∷◌, ◌++◌, ap, subst, arith}
use Rattle.std.specs.List.{Contains}
use Rattle.restrict_eval.specs.Readers.{readers_in}
use Rattle.restrict_eval.proofs.Reading.{none_push}
use Rattle.restrict_eval.proofs.readers.none_of.Goals as goal

pub loop-n-preserved : goal.loop-n-preserved
loop-n-preserved c =
    let more : c.push.new.self.items ≡ c.loop-n.lists.items ++ [] ∷ [] = c.in_ok-push.ensures.items ∙ ap (λ (list : List ℕ). c.loop-n.lists.items ++ list ∷ []) c.new.ensures in
    record {
      long = omega (arith, c.in_ok-push.ensures.len, c.loop-n.invariant.long);
      none = λ n k listed. none_push c.loop-n.lists.items n k c.loop-n.invariant.none (subst (λ (lists : List (List ℕ)). Contains (readers_in lists n) k) more listed);
    }
