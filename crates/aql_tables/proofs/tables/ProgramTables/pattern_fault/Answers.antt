use Rattle.std.proofs.Common.{◌∙◌, ap, sym, subst, Some}
use Rattle.aql_tables.specs.declared.patterns.Verdict.{Verdict}
use Rattle.aql_tables.specs.Kept.{IsTold}
use Rattle.aql_tables.specs.VerdictLaws.{pattern_is}
use Rattle.aql_tables.proofs.tables.ProgramTables.pattern_fault.Goals as goal

pub returns-in-Some-Number-clause-verdict : goal.returns-in-Some-Number-clause-verdict
returns-in-Some-Number-clause-verdict c =
    let text = c.args.text.now in
    let ks = c.self.inside.patterns.compiled.items in
    let known = sym c.verdict.ensures ∙ (c.in-Some-Number.is ∙ ap (λ (v : Verdict). Some v) c.in-Some-Number.field-0-is) in
    pattern_is text (subst (IsTold ks text) known (c.self.invariant.patterns.told text)).1
