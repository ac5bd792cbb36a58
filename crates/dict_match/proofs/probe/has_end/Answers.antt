use Rattle.std.proofs.Common.{◌≡◌, ◌<◌, true, false, inl, inr, List, length, refl, sym, subst, arith}
use Rattle.std.proofs.lemmas.List.{take_all}
use Rattle.dict_match.specs.declared.trie.End.{End}
use Rattle.dict_match.specs.Walks.{run_texts, HasEndFor}
use Rattle.dict_match.proofs.RowLemmas.{has-cases}
use Rattle.dict_match.proofs.probe.has_end.Goals as goal

pub loop-end-init : goal.loop-end-init
loop-end-init c = λ has. let at = has.listed in let low = at.1 in absurd (omega (arith, low))

pub returns-then-is_end_for : goal.returns-then-is_end_for
returns-then-is_end_for c =
    let ends = c.args.ends.now in
    let k = c.loop-end.end-index in
    let end = c.end-item.result in
    let lt : k < length ends = omega arith in
    let both = c.is_end_for.ensures.0 c.if-is_end_for.true in (
      λ _. record { end = end; listed = (k, lt, sym c.end-item.is); dict_is = both.0; spelled = both.1 },
      λ _. refl,
    )

pub loop-end-preserved : goal.loop-end-preserved
loop-end-preserved c = λ has.
    let ends = c.args.ends.now in
    let k = c.loop-end.end-index in
    let lt : k < length ends = omega arith in
    elim (has-cases c.args.dict (run_texts c.args.tokens.now c.args.first c.args.past) ends k c.end-item.result lt c.end-item.is has) [
      | inl a ↦ c.loop-end.invariant a
      | inr a ↦ let yes : c.is_end_for.result ≡ true = c.is_end_for.ensures.1 a in let no : c.is_end_for.result ≡ false = c.if-is_end_for.false in cc
    ]

pub returns : goal.returns
returns c = (
  λ h. let no : false ≡ true = h in cc,
  λ has. absurd (c.loop-end.invariant (subst (λ (es : List End). HasEndFor c.args.dict (run_texts c.args.tokens.now c.args.first c.args.past) es) (sym (take_all c.loop-end.end-index c.args.ends.now (omega arith))) has)),
)
