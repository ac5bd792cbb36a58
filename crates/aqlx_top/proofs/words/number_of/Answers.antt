use Rattle.std.proofs.Common.{ℕ, List, ◌∙◌, ap, sym, arith, ◌-◌, ◌+◌, ◌*◌, ◌<◌, min, length, get_or}
use Rattle.std.specs.Char.{is_ascii_digit}
use Rattle.aqlx_top.proofs.Numbers as law
use Rattle.aqlx_top.proofs.words.number_of.Goals as goal

pub loop-digit-preserved : goal.loop-digit-preserved
loop-digit-preserved c =
    let word = c.args.word.now in
    let cut = c.args.most + 1 in
    let i = c.loop-digit.digit-index in
    let same = c.as_bytes-digit-items.ensures.value in
    let below : i < length word = omega (arith, c.loop-digit-test.true, ap length same) in
    record {
      small = omega (arith, c.min-number.ensures);
      digits = sym (law.all_behind word i below (c.if-not-is_ascii_digit.ensures.value ∙ ap (λ (bytes : List ℕ). is_ascii_digit (get_or bytes i 0)) same)) ∙ c.loop-digit.invariant.digits;
      number = law.one_more cut word i c.loop-digit.number c.min-number.result below
          (c.min-number.ensures ∙ ap (λ m. min (10 * c.loop-digit.number + m) cut) (c.from.ensures ∙ ap (λ (bytes : List ℕ). get_or bytes i 0 - 48) same))
          ∙ c.loop-digit.invariant.number;
    }
