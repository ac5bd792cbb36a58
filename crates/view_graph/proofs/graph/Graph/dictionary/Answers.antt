use Rattle.std.proofs.Common.{◌∙◌, sym, map, arith}
use Rattle.aql_syntax.specs.Views.{statement_of}
use Rattle.view_graph.specs.Indexes.{entry_of}
use Rattle.view_graph.proofs.Finding.{dictionary_within}
use Rattle.view_graph.proofs.graph.Graph.dictionary.Goals as goal

pub overflow_add-result : goal.overflow_add-result
overflow_add-result c =
    let program = map statement_of c.self.inside.statements.items in
    let within = dictionary_within program c.self.inside.order.items (entry_of c.self.inside.names.views) (entry_of c.self.inside.names.dictionaries) c.self.inside.indexes.items c.self.invariant c.in-Some.index c.args.name.now (sym c.dictionary_entry.ensures ∙ c.in-Some.is) in
    omega (arith, within, c.self.invariant.short)
