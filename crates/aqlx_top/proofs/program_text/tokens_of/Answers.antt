use Rattle.aqlx_top.proofs.ProgramLaws.{only_lex}
use Rattle.aqlx_top.proofs.program_text.tokens_of.Goals as goal

pub returns-in-Err-Fault-clause-fault : goal.returns-in-Err-Fault-clause-fault
returns-in-Err-Fault-clause-fault c =
    only_lex c.args.text.now c.in-Err-Fault.fault c.requires.small c.requires.utf8 c.lex.ensures.decided (rw c.in-Err-Fault.field-0-is at c.in-Err-Fault.ensures.fault)
