use Rattle.std.proofs.Common.{◌≡◌, ◌+◌, ◌∙◌, sym, subst, chars, drop, get_or, inl, inr, false}
use Rattle.std.specs.List.{prefix_len}
use Rattle.span_token.specs.Words.{is_word_char}
use Rattle.span_token.proofs.ClassLemmas.{word_class, space_class, mark_class}
use Rattle.span_token.proofs.ScanLemmas.{run_more, run_stops}
use Rattle.span_token.proofs.points.past_word.Goals as goal

pub loop-class-preserved : goal.loop-class-preserved
loop-class-preserved c =
    let here = c.in-Some.ensures in
    let cs = chars c.args.text.now in
    let more = run_more cs c.loop-class.at.place _ here.there (word_class _ (sym c.in-Word.is ∙ here.class_is)) c.loop-class.invariant.run in
    record {
      point = here.point;
      run = subst (λ n. n + prefix_len is_word_char (drop n cs) ≡ c.args.from.place + prefix_len is_word_char (drop c.args.from.place cs)) (sym here.one) more;
    }

pub returns-in-Space : goal.returns-in-Space
returns-in-Space c =
    let here = c.in-Some.ensures in
    let cs = chars c.args.text.now in
    let other : is_word_char (get_or cs c.loop-class.at.place 0) ≡ false =
    elim c.in-Space.is [
      | inl e ↦ (space_class _ (sym e ∙ here.class_is)).0
      | inr e ↦ (mark_class _ (sym e ∙ here.class_is)).0
    ] in
    record {
      point = c.loop-class.invariant.point;
      place = run_stops cs c.loop-class.at.place _ here.there other c.loop-class.invariant.run;
    }
