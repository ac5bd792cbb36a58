use Rattle.std.proofs.Common.{sym}
use Rattle.aqlx_top.proofs.Begins as law
use Rattle.aqlx_top.proofs.program.begin_at.Goals as goal

pub returns-then-number-toks : goal.returns-then-number-toks
returns-then-number-toks c = sym (law.begin_at c.args.toks.now c.args.number c.index-toks-number.result c.if-number-toks.true)
