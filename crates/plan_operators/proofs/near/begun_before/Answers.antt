use Rattle.std.proofs.Common.{◌≡◌, ◌∙◌, ℕ, length, subst, sym, arith, nat_lt}
use Rattle.std.specs.List.{count_by}
use Rattle.span_token.specs.Documents.{characters}
use Rattle.span_token.specs.Extents.{Extent}
use Rattle.span_token.specs.Tokens.{tokens_of}
use Rattle.plan_operators.specs.Neighbourhoods.{AreBegun}
use Rattle.plan_operators.proofs.TokenNumbers.{tokens-in-order, are-begun, begun-at-end}
use Rattle.plan_operators.proofs.near.begun_before.Goals as goal
use Rattle.plan_operators.proofs.near.begun_before.Goals.{then-place-from, else-place-from}

pub returns-clause-begun : goal.returns-clause-begun
returns-clause-begun c =
    let cs = characters c.args.doc.now in
    let tokens = tokens_of cs in
    let at = c.if-place-from.at in
    let number : c.from-2.result ≡ count_by (λ (t : Extent). nat_lt t.begin at) tokens = c.from-2.ensures ∙ c.tokens_in-first.ensures.first in
    let begun : AreBegun tokens at c.from-2.result = subst (AreBegun tokens at) (sym number) (are-begun tokens at (tokens-in-order cs)) in
    elim c.if-place-from.branch [
      | then-place-from w ↦ subst (λ (p : ℕ). AreBegun tokens p c.from-2.result) w.at-is begun
      | else-place-from w ↦
          let at_end : at ≡ length cs = w.at-is ∙ c.len-end.ensures.len in
          begun-at-end cs c.args.place c.from-2.result (grind (arith, w.if-place-from, c.from.ensures, c.len-end.ensures.len))
          (subst (λ (p : ℕ). AreBegun tokens p c.from-2.result) at_end begun)
    ]
