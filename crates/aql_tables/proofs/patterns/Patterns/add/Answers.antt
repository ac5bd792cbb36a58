use Rattle.std.proofs.Common.{◌∙◌, ◌++◌, ◌∷◌, [], sym, ap, subst, List, ℕ}
use Rattle.std.proofs.lemmas.Result.{on_ok_weaker}
use Rattle.aql_regex_extract.specs.Faults.{HasCause}
use Rattle.aql_tables.specs.Mentions.{of_pattern}
use Rattle.aql_tables.specs.Kept.{entry_of, HasPatterns}
use Rattle.aql_tables.proofs.Answering.{on_ok_three}
use Rattle.aql_tables.proofs.Telling.{tell_known, tell_fault, tell_new}
use Rattle.aql_tables.proofs.patterns.Patterns.add.Goals as goal

pub returns-in-Some : goal.returns-in-Some
returns-in-Some c = λ seen has.
    tell_known seen c.args.self.now.compiled.items (entry_of c.args.self.now.verdicts) c.args.text.now has c.in-Some.field-0 (sym c.verdict.ensures ∙ c.in-Some.is)

pub returns-in-Ok : goal.returns-in-Ok
returns-in-Ok c = λ seen has.
    let text = c.args.text.now in
    let ks = c.args.self.now.compiled.items in
    on_ok_three c.keep.result c.keep.ensures.compiled c.keep.ensures.set c.keep.ensures.short
    (λ compiled set short.
    subst (λ (more : List (List ℕ)). HasPatterns (seen ++ of_pattern text ∷ []) more (entry_of c.keep.new.self.verdicts))
    (ap (λ (t : List ℕ). ks ++ t ∷ []) (sym c.in-Ok.ensures.ok) ∙ sym compiled)
    (tell_new seen ks (entry_of c.args.self.now.verdicts) text has (entry_of c.keep.new.self.verdicts) (sym c.verdict.ensures ∙ c.in-None.is) c.in-Ok.ensures.pattern short set))

pub returns-in-Err-Fault : goal.returns-in-Err-Fault
returns-in-Err-Fault c = λ seen has.
    on_ok_weaker c.set_entry.result
    (tell_fault seen c.args.self.now.compiled.items (entry_of c.args.self.now.verdicts) c.args.text.now has (entry_of c.set_entry.new.entries) (sym c.verdict.ensures ∙ c.in-None.is) c.in-Err-Fault.fault (subst (HasCause c.args.text.now) c.in-Err-Fault.field-0-is c.in-Err-Fault.ensures.fault))
    c.set_entry.ensures
