use Rattle.std.proofs.Common.{◌≡◌, ◌++◌, ◌+◌, ◌<◌, ◌∙◌, sym, ap, drop, get_or, length, subst, refl, arith}
use Rattle.std.proofs.lemmas.List.{drop_more}
use Rattle.std.proofs.lemmas.Str.{encode_ascii, len_utf8_ascii}
use lib.Utf8.{encode}
use Rattle.span_token.specs.Leads.{IsPlace}
use Rattle.span_token.specs.Classes.{class_of}
use Rattle.span_token.proofs.StepLemmas.{at_char, at_end}
use Rattle.span_token.proofs.points.step.Goals as goal

pub returns-then-at-bytes : goal.returns-then-at-bytes
returns-then-at-bytes c =
    at_end c.args.text.now c.args.at.place c.utf8.text
    (subst (IsPlace c.args.text.now c.args.at.place) (c.if-at-bytes.true ∙ ap length c.as_bytes-bytes.ensures.value) c.requires.point)

pub returns-then-first-lt128 : goal.returns-then-first-lt128
returns-then-first-lt128 c =
    let same = c.as_bytes-bytes.ensures.value in
    let first = get_or c.args.text.now c.args.at.byte 0 in
    let low : first < 128 = rw same at c.if-first-lt128.true in
    let short : c.args.at.byte < length c.args.text.now = omega (arith, c.requires.point.boundary.0, c.if-at-bytes.false, ap length same) in
    let split : drop c.args.at.byte c.args.text.now ≡ encode first ++ drop (c.args.at.byte + 1) c.args.text.now =
    drop_more c.args.text.now c.args.at.byte 0 short ∙ ap (λ bs. bs ++ drop (c.args.at.byte + 1) c.args.text.now) (sym (encode_ascii first low)) in
    let here = at_char c.args.text.now (drop (c.args.at.byte + 1) c.args.text.now) c.args.at.place c.args.at.byte first c.utf8.text c.requires.point split in
    record {
      there = here.there;
      class_is = c.class_of_ascii.ensures ∙ ap class_of (ap (λ bs. get_or bs c.args.at.byte 0) same ∙ sym here.char);
      one = refl;
      point = subst (λ n. IsPlace c.args.text.now (c.args.at.place + 1) (c.args.at.byte + n)) (len_utf8_ascii first low) here.next;
    }
