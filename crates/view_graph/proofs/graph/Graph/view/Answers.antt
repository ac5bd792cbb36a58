use Rattle.std.proofs.Common.{◌∙◌, ◌+◌, ◌<◌, ap, sym, subst, map, length, List, ℕ, Option, Some, arith, get_or}
use Rattle.aql_syntax.specs.declared.tree.Statement as declared
use Rattle.aql_syntax.specs.Views.{statement_of}
use Rattle.view_graph.specs.Found.{StandsAt}
use Rattle.view_graph.specs.Indexes.{entry_of}
use Rattle.view_graph.proofs.Finding.{view_within, index_within, stands, is_document}
use Rattle.view_graph.proofs.graph.Graph.view.Goals as goal

pub overflow_add-result : goal.overflow_add-result
overflow_add-result c =
    let program = map statement_of c.self.inside.statements.items in
    let within = view_within program c.self.inside.order.items (entry_of c.self.inside.names.views) (entry_of c.self.inside.names.dictionaries) c.self.inside.indexes.items c.self.invariant c.in-Some-Some.view c.args.name.now (sym c.view_entry.ensures ∙ (c.in-Some-Some.is ∙ ap (λ (o : Option ℕ). Some o) c.in-Some-Some.field-0-is)) in
    omega (arith, within, c.self.invariant.short)

pub index_at-requires : goal.index_at-requires
index_at-requires c =
    let program = map statement_of c.self.inside.statements.items in
    let within = index_within program c.self.inside.order.items (entry_of c.self.inside.names.views) (entry_of c.self.inside.names.dictionaries) c.self.inside.indexes.items c.self.invariant c.in-Some-Some.view c.args.name.now (sym c.view_entry.ensures ∙ (c.in-Some-Some.is ∙ ap (λ (o : Option ℕ). Some o) c.in-Some-Some.field-0-is)) in
    subst (λ (xs : List ℕ). c.in-Some-Some.view < length xs) (sym c.deref.ensures.value) within

pub returns-in-Some-None : goal.returns-in-Some-None
returns-in-Some-None c =
    let program = map statement_of c.self.inside.statements.items in
    is_document program c.self.inside.order.items (entry_of c.self.inside.names.views) (entry_of c.self.inside.names.dictionaries) c.self.inside.indexes.items c.self.invariant c.args.name.now (sym c.view_entry.ensures ∙ (c.in-Some-None.is ∙ ap (λ (o : Option ℕ). Some o) c.in-Some-None.field-0-is))

pub returns-in-Some-Some : goal.returns-in-Some-Some
returns-in-Some-Some c =
    let program = map statement_of c.self.inside.statements.items in
    let at = stands program c.self.inside.order.items (entry_of c.self.inside.names.views) (entry_of c.self.inside.names.dictionaries) c.self.inside.indexes.items c.self.invariant c.in-Some-Some.view c.args.name.now (sym c.view_entry.ensures ∙ (c.in-Some-Some.is ∙ ap (λ (o : Option ℕ). Some o) c.in-Some-Some.field-0-is))
    c.index_at.result (c.index_at.ensures ∙ ap (λ (xs : List ℕ). get_or xs c.in-Some-Some.view 0) c.deref.ensures.value) in
    subst (λ (v : List declared.Statement × List ℕ). StandsAt (map statement_of v.0) v.1 c.args.name.now (c.in-Some-Some.view + 1) c.index_at.result) c.self.view_is at
