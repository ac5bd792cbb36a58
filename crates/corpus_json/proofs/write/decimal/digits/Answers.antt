use Rattle.std.proofs.Common.{◌≡◌, ◌/◌, ap, length, decimal, arith}
use Rattle.std.proofs.lemmas.Fmt.{length-decimal-le}
use Rattle.itoa.proofs.Decimal.{length_four}
use Rattle.corpus_json.proofs.write.decimal.digits.Goals as goal

pub returns-then-n-lt100000000-clause-digits : goal.returns-then-n-lt100000000-clause-digits
returns-then-n-lt100000000-clause-digits c = omega (arith, length_four c.args.n c.if-n-lt10000.false (omega arith), c.few_digits-then-n-lt100000000.ensures.digits)

pub returns-clause-digits : goal.returns-clause-digits
returns-clause-digits c =
    let n = c.args.n in
    let same : n / 10000 / 10000 ≡ n / 100000000 = omega arith in
    omega (arith, length_four n c.if-n-lt10000.false (omega arith), length_four (n / 10000) (omega arith) (omega arith), ap (λ k. length (decimal k)) same, c.few_digits-2.ensures.digits)

pub returns-clause-few : goal.returns-clause-few
returns-clause-few c = omega (arith, length-decimal-le 2 (c.args.n / 100000000) (omega arith) (omega arith) (omega arith), c.few_digits-2.ensures.digits)
