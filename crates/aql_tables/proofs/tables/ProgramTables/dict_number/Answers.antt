use Rattle.std.proofs.Common.{◌∙◌, ap, sym, subst}
use Rattle.aql_tables.specs.Kept.{IsNumberOf}
use Rattle.aql_tables.specs.Numbers.{number_among}
use Rattle.aql_tables.specs.Programs.{Collected, DictKey, same_dict}
use Rattle.aql_tables.proofs.tables.ProgramTables.dict_number.Goals as goal

pub returns-in-Some : goal.returns-in-Some
returns-in-Some c =
    let key : DictKey = (c.args.name.now, c.args.exact) in
    let numbered = subst (IsNumberOf same_dict c.self.inside.dicts.keys.items key) (sym c.number.ensures ∙ c.in-Some.is) (c.self.invariant.dicts.numbered key) in
    sym numbered.number_is ∙ ap (λ (tables : Collected). number_among same_dict key tables.dicts) c.self.view_is

pub returns-in-None : goal.returns-in-None
returns-in-None c =
    let key : DictKey = (c.args.name.now, c.args.exact) in
    let numbered = subst (IsNumberOf same_dict c.self.inside.dicts.keys.items key) (sym c.number.ensures ∙ c.in-None.is) (c.self.invariant.dicts.numbered key) in
    c.len.ensures ∙ (c.self.inside.dicts.keys.ok.0 ∙ (sym numbered ∙ ap (λ (tables : Collected). number_among same_dict key tables.dicts) c.self.view_is))
