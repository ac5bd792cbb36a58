use Rattle.std.proofs.Common.{◌+◌, ◌*◌, ◌∷◌, arith, ap, sym, ◌∙◌, length}
use Rattle.std.proofs.lemmas.Bool.{cond-true}
use Rattle.std.specs.Char.{is_ascii_digit}
use Rattle.aql_regex_extract.specs.Weight.{number_after, after_digits}
use Rattle.aql_regex_extract.specs.Capped.{capped}
use Rattle.aql_regex_extract.proofs.Counts.{number_after-digit}
use Rattle.aql_regex_extract.proofs.weight.read_number.Goals as goal

pub digits-preserved : goal.digits-preserved
digits-preserved c =
    let digit = sym c.if-not-is_ascii_digit.ensures.value in
    let n = c.digits.number in
    let first = c.in-Some.first in
    let others = c.in-Some.others.now in
    record {
      small = omega (arith, c.min-number.ensures);
      number = ap (λ k. capped (number_after k others)) (c.min-number.ensures ∙ ap (λ d. capped (10 * n + d)) c.from.ensures)
          ∙ number_after-digit n first others digit
          ∙ ap (λ t. capped (number_after n t)) (sym c.in-Some.ensures)
          ∙ c.digits.invariant.number;
      rest = sym (cond-true (is_ascii_digit first) (after_digits others) (first ∷ others) digit)
          ∙ ap after_digits (sym c.in-Some.ensures) ∙ c.digits.invariant.rest;
      shorter = omega (arith, ap length c.in-Some.ensures);
    }
