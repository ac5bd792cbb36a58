use Rattle.std.proofs.Common.{◌%◌, arith, rules}
use Rattle.std.proofs.lemmas.Grind.{common_steps}
use Rattle.demo_corpus.proofs.Fillings.{four_digits_is}
use Rattle.demo_corpus.proofs.generator.last_digits.Goals as goal

pub returns : goal.returns
returns c = let e = four_digits_is (c.args.i % 10000) in first_of (cc, search (rules, e), grind (arith, common_steps, e))
