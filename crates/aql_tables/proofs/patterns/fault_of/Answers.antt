use Rattle.std.proofs.Common.{sym, subst}
use Rattle.aql_regex_extract.specs.Faults.{HasCause}
use Rattle.aql_tables.specs.VerdictLaws.{fault_told, pattern_told}
use Rattle.aql_tables.proofs.patterns.fault_of.Goals as goal
use Rattle.aql_tables.proofs.patterns.fault_of.Goals.{in-Ok, in-Err-Fault, in-Err-OutOfMemory}

pub returns : goal.returns
returns c =
    let text = c.args.text.now in
    elim c.match-compile_pattern.branch [
      | in-Ok w ↦ rw w.result-is (sym (pattern_told text w.in-Ok.ensures.pattern))
      | in-Err-Fault w ↦ rw w.result-is (sym (fault_told text w.in-Err-Fault.fault (subst (HasCause text) w.in-Err-Fault.field-0-is w.in-Err-Fault.ensures.fault)))
      | in-Err-OutOfMemory w ↦ rw w.result-is tt
    ]
