use Rattle.std.proofs.Common.{◌≡◌, ◌∙◌, ◌-◌, ◌<◌, true, false, ℕ, List, [], length, get_or, ap, sym, refl, arith, below_more}
use Rattle.std.proofs.lemmas.List.{ext_get_or, get_or_default}
use Rattle.dict_match.specs.Walks.{run_texts}
use Rattle.dict_match.proofs.WalkLemmas.{run_texts-nth, length-run, told-ne}
use Rattle.dict_match.proofs.walk.are_spelled.Goals as goal

pub returns-then-ne : goal.returns-then-ne
returns-then-ne c =
    let i = c.loop-i.i in
    let texts = c.args.texts.now in
    let run : List (List ℕ) = run_texts c.args.tokens.now c.args.first c.args.past in
    let lt : i < length texts = c.loop-i-test.true in
    let in_run : i < c.args.past - c.args.first = omega (arith, lt, c.if-texts-past.false) in
    let spelled : c.as_str.result.now ≡ get_or texts i [] = c.as_str.ensures ∙ c.index-texts-i.is ∙ get_or_default texts i c.index-texts-i.result [] lt in
    let there = run_texts-nth c.args.tokens.now c.args.first c.args.past i in_run c.requires.there in (
      λ h. let no : false ≡ true = h in cc,
      λ e. absurd ((told-ne c.text.result.now c.as_str.result.now c.ne.result c.ne.ensures).1 c.if-ne.true (c.text.ensures.text ∙ sym there ∙ ap (λ (l : List (List ℕ)). get_or l i []) (sym e) ∙ sym spelled)),
    )

pub loop-i-preserved : goal.loop-i-preserved
loop-i-preserved c =
    let i = c.loop-i.i in
    let texts = c.args.texts.now in
    let lt : i < length texts = c.loop-i-test.true in
    let in_run : i < c.args.past - c.args.first = omega (arith, lt, c.if-texts-past.false) in
    let spelled : c.as_str.result.now ≡ get_or texts i [] = c.as_str.ensures ∙ c.index-texts-i.is ∙ get_or_default texts i c.index-texts-i.result [] lt in
    let there = run_texts-nth c.args.tokens.now c.args.first c.args.past i in_run c.requires.there in
    below_more _ _ c.loop-i.invariant
    (sym spelled ∙ sym ((told-ne c.text.result.now c.as_str.result.now c.ne.result c.ne.ensures).0 c.if-ne.false) ∙ c.text.ensures.text ∙ sym there)

pub returns : goal.returns
returns c = (
  λ _. ext_get_or [] c.args.texts.now (run_texts c.args.tokens.now c.args.first c.args.past)
      (c.if-texts-past.false ∙ sym (length-run c.args.tokens.now c.args.first c.args.past (omega (arith, c.requires.some)) c.requires.there))
      (λ i lt. c.loop-i.invariant i (omega (arith, lt, c.loop-i-test.false))),
  λ _. refl,
)
