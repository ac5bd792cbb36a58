use Rattle.std.proofs.Common.{◌∙◌, ap, sym, subst, ℕ, Some, get_or}
use Rattle.aql_tables.specs.declared.patterns.Verdict.{Verdict}
use Rattle.aql_tables.specs.Kept.{IsTold}
use Rattle.aql_tables.proofs.Telling.{groups_at}
use Rattle.aql_tables.proofs.tables.ProgramTables.group_count.Goals as goal

pub returns-in-Some-Number : goal.returns-in-Some-Number
returns-in-Some-Number c =
    let text = c.args.text.now in
    let ks = c.self.inside.patterns.compiled.items in
    let told = subst (IsTold ks text) (sym c.verdict.ensures ∙ (c.in-Some-Number.is ∙ ap (λ (v : Verdict). Some v) c.in-Some-Number.field-0-is)) (c.self.invariant.patterns.told text) in
    c.group_count.ensures ∙ groups_at ks text c.in-Some-Number.number told c.index.result.now
    (c.index.ensures ∙ ap (λ (i : ℕ). get_or ks i c.index.result.now) c.in-Some-Number.number-is)
