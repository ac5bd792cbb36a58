use Rattle.std.proofs.Common.{◌∙◌, ap, sym, subst}
use Rattle.aql_regex_extract.specs.Faults.{HasCause}
use Rattle.aql_regex_extract.specs.Patterns.{group_count_of}
use Rattle.aql_tables.specs.VerdictLaws.{fault_told, pattern_told}
use Rattle.aql_tables.proofs.Telling.{groups_good, groups_bad}
use Rattle.aql_tables.proofs.patterns.groups_of.Goals as goal

pub returns-in-Ok : goal.returns-in-Ok
returns-in-Ok c =
    c.group_count.ensures ∙ (ap group_count_of c.in-Ok.ensures.ok ∙ sym (groups_good c.args.text.now (pattern_told c.args.text.now c.in-Ok.ensures.pattern)))

pub returns-in-Err-Fault : goal.returns-in-Err-Fault
returns-in-Err-Fault c =
    let text = c.args.text.now in
    sym (groups_bad text c.in-Err-Fault.field-0-0 (fault_told text c.in-Err-Fault.field-0-0 (subst (HasCause text) c.in-Err-Fault.field-0-is c.in-Err-Fault.ensures.fault)))
