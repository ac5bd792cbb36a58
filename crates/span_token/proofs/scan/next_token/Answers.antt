use Rattle.std.proofs.Common.{◌≡◌, ◌+◌, ◌∙◌, sym, ap, subst, arith, chars, drop}
use Rattle.std.specs.List.{prefix_len}
use Rattle.span_token.specs.Words.{is_word_char}
use Rattle.span_token.specs.Tokens.{tokens_from}
use Rattle.span_token.specs.Points.{IsSeam}
use Rattle.span_token.proofs.ClassLemmas.{word_class, space_class, mark_class}
use Rattle.span_token.proofs.ScanLemmas.{IsFoundToken, space_found, mark_found, word_found, from_end}
use Rattle.span_token.proofs.scan.next_token.Goals as goal

pub loop-class-preserved : goal.loop-class-preserved
loop-class-preserved c =
    let here = c.in-Some.ensures in
    let cs = chars c.args.text.now in
    let space = space_class _ (sym c.in-Space.is ∙ here.class_is) in
    let passed = space_found cs c.loop-class.at.place here.there space.0 space.1 in
    record {
      point = here.point;
      seam = subst (IsSeam cs) (sym here.one) passed.seam;
      same = ap (tokens_from cs) here.one ∙ sym passed.same ∙ c.loop-class.invariant.same;
    }

pub returns-in-Mark : goal.returns-in-Mark
returns-in-Mark c =
    let here = c.in-Some.ensures in
    let cs = chars c.args.text.now in
    let mark = mark_class _ (sym c.in-Mark.is ∙ here.class_is) in
    let found = subst (IsFoundToken cs c.loop-class.at.place) (sym here.one) (mark_found cs c.loop-class.at.place here.there mark.0 mark.1) in
    record { first = sym c.loop-class.invariant.same ∙ found.first; ahead = omega (arith, here.one); begins = c.loop-class.invariant.point; point = here.point; seam = found.seam }

pub returns-in-Word : goal.returns-in-Word
returns-in-Word c =
    let here = c.in-Some.ensures in
    let cs = chars c.args.text.now in
    let word = word_class _ (sym c.in-Word.is ∙ here.class_is) in
    let far = subst (λ n. c.past_word.result.place ≡ n + prefix_len is_word_char (drop n cs)) here.one c.past_word.ensures.place in
    let found = word_found cs c.loop-class.at.place c.past_word.result.place here.there word (c.loop-class.invariant.seam.between here.there word) far in
    record { first = sym c.loop-class.invariant.same ∙ found.first; ahead = omega (arith, here.one, far); begins = c.loop-class.invariant.point; point = c.past_word.ensures.point; seam = found.seam }

pub returns : goal.returns
returns c = sym c.loop-class.invariant.same ∙ from_end (chars c.args.text.now) c.loop-class.at.place c.in_default.ensures
