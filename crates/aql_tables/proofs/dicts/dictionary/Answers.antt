use Rattle.std.proofs.Common.{◌∙◌, ◌-◌, ap, sym, subst, List, map}
use Rattle.aql_syntax.specs.declared.tree.Statement as declared
use Rattle.aql_syntax.specs.Trees.{dictionary}
use Rattle.aql_syntax.specs.Views.{statement_of, name_of}
use Rattle.view_graph.specs.Found.{FindsDictionary}
use Rattle.view_graph.specs.Uses.{statement_at}
use Rattle.aql_tables.proofs.FirstEntries.{found_none, found_entries, statement_found}
use Rattle.aql_tables.proofs.dicts.dictionary.Goals as goal

pub returns-in-None : goal.returns-in-None
returns-in-None c =
    found_none (map statement_of c.args.graph.now.0) c.args.name.now
    (subst (FindsDictionary (map statement_of c.args.graph.now.0) c.args.name.now) c.in-None.is c.dictionary.ensures)

pub returns-in-Some-Dictionary : goal.returns-in-Some-Dictionary
returns-in-Some-Dictionary c =
    let statements = c.args.graph.now.0 in
    let number = c.in-Some.number in
    let found = c.in-Some-Dictionary.field-0.now in
    let at = c.in-Some-Dictionary.ensures.lookup in
    found_entries (map statement_of statements) c.args.name.now c.order-order.result.now c.order-order.ensures.resolved number
    (subst (FindsDictionary (map statement_of statements) c.args.name.now) c.in-Some.is c.dictionary.ensures)
    (name_of c.in-Some-Dictionary.field-0-0) c.as_slice.result.now
    (ap (λ (ss : List declared.Statement). statement_at (map statement_of ss) (number - 1)) (sym c.statements.ensures.same)
    ∙ (statement_found c.statements.result.now (number - 1) found at.3.0 (sym at.1)
    ∙ (ap statement_of c.in-Some-Dictionary.field-0-is ∙ ap (dictionary (name_of c.in-Some-Dictionary.field-0-0)) (sym c.as_slice.ensures.value))))
