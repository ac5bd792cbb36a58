use Rattle.std.proofs.Common.{◌≡◌, ◌∙◌, ◌++◌, ◌∷◌, [], ◌+◌, ℕ, All, max, false, length, get_or, slice_index, ap, sym, subst, arith}
use Rattle.aql_regex_extract.specs.Weight.{weight_of, product_below, chains_in, greatest_at}
use Rattle.aql_regex_extract.specs.Capped.{capped, greatest_known, IsCounted}
use Rattle.aql_regex_extract.proofs.Chains.{greatest_at-positive}
use Rattle.aql_regex_extract.proofs.Products.{product-greatest, one_depth, one_counted}
use Rattle.aql_regex_extract.proofs.weight.weigh.Goals as goal

pub pieces-init : goal.pieces-init
pieces-init c =
    let items : c.push.new.self.items ≡ 1 ∷ [] = c.in_ok-push.ensures.items ∙ ap (λ xs. xs ++ 1 ∷ []) c.new-greatest.ensures.items in
    record {
      known = omega (arith, c.in_ok-push.ensures.len);
      counted = subst (All IsCounted) (sym items) one_counted;
      room = omega (arith, c.in_ok-push.ensures.len, c.new-greatest.ensures.len);
      kept = λ d.
          let cs = chains_in false 0 c.args.text.now in
          let positive = greatest_at-positive cs d in
          let is_one : get_or c.push.new.self.items d 1 ≡ 1 = ap (λ xs. get_or xs d 1) items ∙ one_depth d in
          omega (arith, positive, is_one);
    }

pub returns-clause-weight : goal.returns-clause-weight
unfolding weight_of
returns-clause-weight c =
    let items = c.pieces.greatest.items in
    let text = c.args.text.now in
    let all = greatest_at (chains_in false 0 text) in
    let at_end : (d : ℕ) → max (get_or items d 1) (capped 1) ≡ capped (all d) = λ d.
    ap (λ rest. greatest_known items c.pieces.depth rest d) (sym c.in_default.ensures) ∙ c.pieces.invariant.kept d in
    c.product.ensures ∙ ap (λ xs. capped (product_below (slice_index xs) (length xs))) c.deref.ensures.value
    ∙ product-greatest items all (length text + 1) (omega (arith, c.pieces.greatest.ok.0, c.pieces.invariant.room)) c.pieces.invariant.counted at_end
