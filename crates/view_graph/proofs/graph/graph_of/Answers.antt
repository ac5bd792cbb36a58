use Rattle.std.proofs.Common.{◌<◌, ◌≤◌, ◌^◌, ap, sym, subst, map, length, List, ℕ, All, arith}
use Rattle.std.proofs.lemmas.List.{length-map}
use Rattle.std.proofs.lemmas.List.Elements.{All-weaker}
use Rattle.aql_syntax.specs.declared.tree.Statement as declared
use Rattle.aql_syntax.specs.Views.{statement_of}
use Rattle.view_graph.specs.Answers.{IsResolved}
use Rattle.view_graph.specs.Indexes.{entry_of, IndexesNames}
use Rattle.view_graph.specs.Kept.{IsIndexed}
use Rattle.view_graph.specs.Names.{AllDiffer}
use Rattle.view_graph.proofs.Finding.{order_differs}
use Rattle.view_graph.proofs.graph.graph_of.Goals as goal

pub indexes_of-requires-clause-within : goal.indexes_of-requires-clause-within
indexes_of-requires-clause-within c =
    let program = map statement_of c.args.statements.items in
    let resolved : IsResolved program c.in_ok-order.order.items = subst (λ (ss : List declared.Statement). IsResolved (map statement_of ss) c.in_ok-order.order.items) c.deref-2.ensures.value c.in_ok-order.ensures.ok in
    let all : All (λ number. (0 < number) × (number ≤ c.len-2.result)) c.in_ok-order.order.items =
    All-weaker (λ number. (0 < number) × (number ≤ length program)) (λ number. (0 < number) × (number ≤ c.len-2.result)) (λ number h. (h.0, omega (arith, h.1, length-map c.args.statements.items statement_of, c.len-2.ensures, c.deref.ensures.len, ap length c.deref.ensures.value)))
    c.in_ok-order.order.items resolved.follows.in_program in
    subst (λ (numbers : List ℕ). All (λ number. (0 < number) × (number ≤ c.len-2.result)) numbers) (sym c.deref-3.ensures.value) all

pub indexes_of-requires-clause-distinct : goal.indexes_of-requires-clause-distinct
indexes_of-requires-clause-distinct c =
    let program = map statement_of c.args.statements.items in
    let resolved : IsResolved program c.in_ok-order.order.items = subst (λ (ss : List declared.Statement). IsResolved (map statement_of ss) c.in_ok-order.order.items) c.deref-2.ensures.value c.in_ok-order.ensures.ok in
    subst (λ (numbers : List ℕ). AllDiffer numbers) (sym c.deref-3.ensures.value) (order_differs program c.in_ok-order.order.items resolved)

pub invariant_of-result : goal.invariant_of-result
invariant_of-result c =
    let resolved : IsResolved (map statement_of c.args.statements.items) c.in_ok-order.order.items = subst (λ (ss : List declared.Statement). IsResolved (map statement_of ss) c.in_ok-order.order.items) c.deref-2.ensures.value c.in_ok-order.ensures.ok in
    let short : length (map statement_of c.args.statements.items) < 2 ^ 32 = omega (arith, length-map c.args.statements.items statement_of, c.len.ensures, c.if-len.false, c.deref.ensures.len, ap length c.deref.ensures.value) in
    record {
      short = short;
      formed = c.requires.formed;
      resolved = resolved;
      names = subst (λ (ss : List declared.Statement). IndexesNames (map statement_of ss) (entry_of c.in_ok-names.names.views) (entry_of c.in_ok-names.names.dictionaries)) c.deref.ensures.value c.in_ok-names.ensures.ok;
      indexed = subst (λ (numbers : List ℕ). IsIndexed numbers c.in_ok-indexes.indexes.items) c.deref-3.ensures.value c.in_ok-indexes.ensures;
    }
