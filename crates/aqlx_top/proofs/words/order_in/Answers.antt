use Rattle.std.proofs.Common.{rules, string_bytes, Global}
use Rattle.aqlx_top.proofs.Orders as law
use Rattle.aqlx_top.proofs.words.order_in.Goals as goal
use Rattle.aqlx_top.proofs.words.order_in.Goals.{in_default-via-then-words-lt2, in_default-via-else-words-lt2+else-words-lt3+then-words-lt4, in_default-via-else-words-lt2+else-words-lt3+else-words-lt4+else-words-lt5}

pub returns-in_default-clause-order : goal.returns-in_default-clause-order
returns-in_default-clause-order c = elim c.in_default.branch [
  | in_default-via-then-words-lt2 w ↦ law.none-of-few (string_bytes {Z = Global}) c.args.words.now (search (rules, w))
  | in_default-via-else-words-lt2+else-words-lt3+then-words-lt4 w ↦ law.none-of-three (string_bytes {Z = Global}) c.args.words.now (search (rules, w)) (search (rules, w))
  | in_default-via-else-words-lt2+else-words-lt3+else-words-lt4+else-words-lt5 w ↦ law.none-of-many (string_bytes {Z = Global}) c.args.words.now (search (rules, w))
]
