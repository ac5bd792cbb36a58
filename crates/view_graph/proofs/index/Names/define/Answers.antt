use Rattle.std.proofs.Common.{ap}
use Rattle.aql_syntax.specs.declared.tree.Statement.{Statement}
use Rattle.aql_syntax.specs.Views.{statement_of}
use Rattle.view_graph.specs.Names.{defined_by}
use Rattle.view_graph.specs.Indexes.{entry_of}
use Rattle.view_graph.proofs.Defining.{index_none}
use Rattle.view_graph.proofs.Refusing.{nothing_defined, view_added, view_again, dictionary_added, dictionary_again}
use Rattle.view_graph.proofs.index.Names.define.Goals as goal

pub returns-then-branch-clause-ok : goal.returns-then-branch-clause-ok
returns-then-branch-clause-ok c = λ before at names.
    view_added before (statement_of c.args.statement.now) c.in-View.name.text c.as_str-text.result.now c.as_str-text.ensures c.args.index at
    (entry_of c.args.self.now.views) (entry_of c.args.self.now.dictionaries) names
    (ap (λ (s : Statement). defined_by (statement_of s)) c.in-View.is)
    (entry_of c.add_view.new.views) c.in_ok-add_view-in-View.field-0 c.if-branch.true c.in_ok-add_view-in-View.ensures

pub returns-in_ok-defined_again-in-View-clause-fault : goal.returns-in_ok-defined_again-in-View-clause-fault
returns-in_ok-defined_again-in-View-clause-fault c = λ before after at names.
    view_again before (statement_of c.args.statement.now) c.in-View.name.text c.as_str-text.result.now c.as_str-text.ensures c.args.index at
    (entry_of c.args.self.now.views) (entry_of c.args.self.now.dictionaries) names
    (ap (λ (s : Statement). defined_by (statement_of s)) c.in-View.is)
    (entry_of c.add_view.new.views) c.in_ok-add_view-in-View.field-0 c.if-branch.false c.in_ok-add_view-in-View.ensures
    after c.in_ok-defined_again-in-View.field-0 c.in_ok-defined_again-in-View.ensures

pub returns-then-branch-2-clause-ok : goal.returns-then-branch-2-clause-ok
returns-then-branch-2-clause-ok c = λ before at names.
    dictionary_added before (statement_of c.args.statement.now) c.in-Dictionary.name.text c.as_str-text-in-Dictionary.result.now c.as_str-text-in-Dictionary.ensures c.args.index at
    (entry_of c.args.self.now.views) (entry_of c.args.self.now.dictionaries) names
    (ap (λ (s : Statement). defined_by (statement_of s)) c.in-Dictionary.is)
    (entry_of c.add_dictionary.new.dictionaries) c.in_ok-add_dictionary-in-Dictionary.field-0 c.if-branch-2.true c.in_ok-add_dictionary-in-Dictionary.ensures

pub returns-in_ok-defined_again-in-Dictionary-clause-fault : goal.returns-in_ok-defined_again-in-Dictionary-clause-fault
returns-in_ok-defined_again-in-Dictionary-clause-fault c = λ before after at names.
    dictionary_again before (statement_of c.args.statement.now) c.in-Dictionary.name.text c.as_str-text-in-Dictionary.result.now c.as_str-text-in-Dictionary.ensures c.args.index at
    (entry_of c.args.self.now.views) (entry_of c.args.self.now.dictionaries) names
    (ap (λ (s : Statement). defined_by (statement_of s)) c.in-Dictionary.is)
    (entry_of c.add_dictionary.new.dictionaries) c.in_ok-add_dictionary-in-Dictionary.field-0 c.if-branch-2.false c.in_ok-add_dictionary-in-Dictionary.ensures
    after c.in_ok-defined_again-in-Dictionary.field-0 c.in_ok-defined_again-in-Dictionary.ensures

pub returns-in_default : goal.returns-in_default
returns-in_default c = record {
  ok = λ before at names.
      index_none before (statement_of c.args.statement.now) (entry_of c.args.self.now.views) (entry_of c.args.self.now.dictionaries)
      (nothing_defined c.args.statement.now c.in_default.not-View c.in_default.not-Dictionary) names;
  fault = λ before after at names. tt;
}
