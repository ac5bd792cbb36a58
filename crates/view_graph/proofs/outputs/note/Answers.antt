use Rattle.std.proofs.Common.{ap}
use Rattle.std.specs.Option.{option_to_list}
use Rattle.aql_syntax.specs.Views.{statement_of}
use Rattle.view_graph.specs.Indexes.{has}
use Rattle.view_graph.proofs.Outputting.{seen_none, seen_more}
use Rattle.view_graph.proofs.outputs.note.Goals as goal

pub returns-in-None-clause-ok : goal.returns-in-None-clause-ok
returns-in-None-clause-ok c = λ before seen. seen_none before (statement_of c.args.statement.now) (has c.args.seen.now) seen (ap option_to_list c.in-None.ensures)

pub returns-then-branch-clause-ok : goal.returns-then-branch-clause-ok
returns-then-branch-clause-ok c = λ before seen.
    seen_more before (statement_of c.args.statement.now) (has c.args.seen.now) seen c.in-Some.name.now (ap option_to_list c.in-Some.ensures)
    (has c.add_name.new.names) c.in_ok-add_name-in-Some.field-0 c.if-branch.true c.in_ok-add_name-in-Some.ensures
