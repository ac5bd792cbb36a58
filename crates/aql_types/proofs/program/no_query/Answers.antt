use Rattle.std.proofs.Common.{◌∙◌, List, map, ap}
use Rattle.aql_typed.specs.Nodes.{union_view}
use Rattle.aql_typed.specs.Trees.{union, as_queries}
use Rattle.aql_typed.specs.Views.{query_of}
use Rattle.aql_typed.specs.declared.tree.TypedQuery.{TypedQuery}
use Rattle.aql_types.proofs.program.no_query.Goals as goal

pub returns : goal.returns
returns c = union_view c.new-sides.result ∙ ap (λ (qs : List TypedQuery). union (as_queries (map query_of qs))) c.new-sides.ensures.items
