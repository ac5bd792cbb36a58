use Rattle.std.proofs.Common.{◌∙◌, ◌++◌, ◌∷◌, ◌+◌, ℕ, List, [], ap, sym, append_assoc, refl}
use Rattle.std.specs.List.{range_with_len}
use Rattle.push_select.proofs.ShownRows.{range_more}
use Rattle.push_select.proofs.swapping.push_numbers.Goals as goal

pub loop-n-preserved : goal.loop-n-preserved
loop-n-preserved c =
    let n = c.loop-n.n in
    let last : List ℕ = (c.args.first + n) ∷ [] in
    c.in_ok-push.ensures.items
    ∙ (ap (λ (ns : List ℕ). ns ++ last) c.loop-n.invariant
    ∙ (append_assoc c.args.numbers.now.items (range_with_len c.args.first n) last
    ∙ ap (λ (ns : List ℕ). c.args.numbers.now.items ++ ns) (sym (range_more c.args.first n (c.args.first + n) refl))))
