use Rattle.std.proofs.Common.{sym}
use Rattle.dict_match.proofs.numbers.number_of_folded.Goals as goal

pub returns-then-not-may_be_word : goal.returns-then-not-may_be_word
returns-then-not-may_be_word c = sym (c.may_be_word.ensures c.if-not-may_be_word.true)
