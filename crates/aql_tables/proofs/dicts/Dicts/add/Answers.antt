use Rattle.std.proofs.Common.{◌∙◌, sym, map}
use Rattle.aql_syntax.specs.Views.{statement_of}
use Rattle.aql_tables.specs.Kept.{entry_of, number_by}
use Rattle.aql_tables.proofs.Answering.{on_ok_four}
use Rattle.aql_tables.proofs.Using.{use_known, use_new}
use Rattle.aql_tables.proofs.dicts.Dicts.add.Goals as goal

pub returns-in-Some : goal.returns-in-Some
returns-in-Some c = λ seen has.
    use_known (map statement_of c.args.graph.now.0) seen c.args.self.now.keys.items c.args.self.now.uses.items (number_by (entry_of c.args.self.now.exact) (entry_of c.args.self.now.other)) has
    c.args.name.now c.args.exact c.in-Some.field-0 (sym c.number.ensures ∙ c.in-Some.is)

pub returns-in-Some-2 : goal.returns-in-Some-2
returns-in-Some-2 c = λ seen has.
    let program = map statement_of c.args.graph.now.0 in
    let name = c.args.name.now in
    let keys = c.args.self.now.keys.items in
    let uses = c.args.self.now.uses.items in
    let number_at = number_by (entry_of c.args.self.now.exact) (entry_of c.args.self.now.other) in
    let new_at = number_by (entry_of c.keep.new.self.exact) (entry_of c.keep.new.self.other) in
    on_ok_four c.keep.result c.keep.ensures.keys c.keep.ensures.uses c.keep.ensures.set c.keep.ensures.short
    (λ more_keys more_uses set short.
    rw (more_keys, more_uses)
    (use_new program seen keys uses number_at has name c.args.exact new_at (sym c.number.ensures ∙ c.in-None.is) c.in-Some-2.entries
    (sym c.in_ok-entries-in-None.ensures ∙ c.in-Some-2.is) short set))
