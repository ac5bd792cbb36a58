use Rattle.std.proofs.Common.{sym, subst, ℕ}
use Rattle.aqlx_top.specs.declared.status.ProgramFault.TheVariants.{Text}
use Rattle.aqlx_top.specs.ProgramFaults.{HasOnlyFault}
use Rattle.aqlx_top.proofs.ProgramLaws.{only_text}
use Rattle.aqlx_top.proofs.program_text.text_of.Goals as goal

pub returns-in-Err-clause-fault : goal.returns-in-Err-clause-fault
returns-in-Err-clause-fault c =
    subst (λ (place : ℕ). HasOnlyFault c.args.bytes.now (Text place)) (sym c.valid_up_to.ensures)
    (only_text c.args.bytes.now _ c.in_ok-check_length.ensures.small c.in-Err.ensures.cases.1)
