use Rattle.std.proofs.Common.{map, length}
use Rattle.std.proofs.lemmas.List.{length-map}
use Rattle.std.proofs.lemmas.Result.{err_from_is_err_and}
use Rattle.aql_syntax.specs.Views.{statement_of}
use Rattle.view_graph.specs.Answers.{IsNameFault, HasNames}
use Rattle.view_graph.specs.Outputs.{IsOutputAgain}
use Rattle.view_graph.proofs.Refusing.{OfFault-weaker}
use Rattle.view_graph.proofs.Resolving.{has_names, output_fault}
use Rattle.view_graph.proofs.graph.ordered.Goals as goal

pub returns-in_err-distinct_outputs-clause-fault : goal.returns-in_err-distinct_outputs-clause-fault
returns-in_err-distinct_outputs-clause-fault c =
    let program = map statement_of c.args.statements.now in
    let p = err_from_is_err_and c.from_residual-in_err-distinct_outputs.result c.from_residual-in_err-distinct_outputs.ensures.1 in
    let names : HasNames program = has_names program (length c.args.statements.now) c.in_ok-uses.uses.items (length-map c.args.statements.now statement_of) c.requires.named.distinct c.in_ok-uses.ensures.ok in
    rw (p.1, p.2) (OfFault-weaker (IsOutputAgain program) (IsNameFault program) (output_fault program names) c.in_err-distinct_outputs.field-0.0 c.in_err-distinct_outputs.ensures.fault)

pub views_in_order-requires-clause-outputs : goal.views_in_order-requires-clause-outputs
views_in_order-requires-clause-outputs c = record {
  names = has_names (map statement_of c.args.statements.now) (length c.args.statements.now) c.in_ok-uses.uses.items (length-map c.args.statements.now statement_of) c.requires.named.distinct c.in_ok-uses.ensures.ok;
  outputs_distinct = c.in_ok-distinct_outputs.ensures.ok;
}
