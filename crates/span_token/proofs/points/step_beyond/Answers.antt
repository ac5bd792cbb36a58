use Rattle.std.proofs.Common.{◌≡◌, ◌++◌, ◌+◌, ◌∙◌, sym, ap, drop, length, subst, refl, arith}
use Rattle.std.proofs.lemmas.List.{length-drop}
use lib.Utf8.{encode}
use Rattle.span_token.specs.Leads.{IsPlace}
use Rattle.span_token.specs.Classes.{class_of}
use Rattle.span_token.proofs.StepLemmas.{at_char, at_end}
use Rattle.span_token.proofs.points.step_beyond.Goals as goal

pub returns-in_err-c : goal.returns-in_err-c
returns-in_err-c c =
    let gone : length (drop c.args.at.byte c.args.text.now) ≡ 0 =
    ap length (sym (c.chars.ensures.rest ∙ c.range_from.ensures.value)) ∙ c.in_err-c.ensures.steps.0.0 in
    let at : c.args.at.byte ≡ length c.args.text.now = omega (arith, gone, length-drop c.args.at.byte c.args.text.now, c.requires.point.boundary.0) in
    rw c.from_residual.ensures (at_end c.args.text.now c.args.at.place c.utf8.text (subst (IsPlace c.args.text.now c.args.at.place) at c.requires.point))

pub returns : goal.returns
returns c =
    let rest : c.chars.result.rest.now ≡ drop c.args.at.byte c.args.text.now =
    c.chars.ensures.rest ∙ c.range_from.ensures.value in
    let split : drop c.args.at.byte c.args.text.now ≡ encode c.in_ok-c.c ++ c.next.new.self.rest.now = sym rest ∙ c.in_ok-c.ensures.steps.0 in
    let here = at_char c.args.text.now c.next.new.self.rest.now c.args.at.place c.args.at.byte c.in_ok-c.c c.utf8.text c.requires.point split in
    record {
      there = here.there;
      class_is = c.class_of_char.ensures ∙ ap class_of (sym here.char);
      one = refl;
      point = subst (λ n. IsPlace c.args.text.now (c.args.at.place + 1) (c.args.at.byte + n)) (sym c.len_utf8.ensures.value) here.next;
    }
