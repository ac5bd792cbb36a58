use Rattle.std.proofs.Common.{◌/◌, sym, arith}
use Rattle.itoa.proofs.Decimal.{length_one, length_two, length_pair}
use Rattle.corpus_json.proofs.write.decimal.few_digits.Goals as goal

pub returns-then-n-lt10-clause-digits : goal.returns-then-n-lt10-clause-digits
returns-then-n-lt10-clause-digits c = sym (length_one c.args.n c.if-n-lt10.true)

pub returns-then-n-lt100-clause-digits : goal.returns-then-n-lt100-clause-digits
returns-then-n-lt100-clause-digits c = sym (length_two c.args.n c.if-n-lt10.false c.if-n-lt100.true)

pub returns-then-n-lt1000-clause-digits : goal.returns-then-n-lt1000-clause-digits
returns-then-n-lt1000-clause-digits c = omega (arith, length_pair c.args.n c.if-n-lt100.false (omega arith), length_one (c.args.n / 100) (omega arith))

pub returns-else-n-lt1000-clause-digits : goal.returns-else-n-lt1000-clause-digits
returns-else-n-lt1000-clause-digits c = omega (arith, length_pair c.args.n c.if-n-lt100.false (omega arith), length_two (c.args.n / 100) (omega arith) (omega arith))
