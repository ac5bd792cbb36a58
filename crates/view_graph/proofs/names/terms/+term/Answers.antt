use Rattle.std.proofs.Common.{◌≡◌, OnOk, List, subst}
use Rattle.view_graph.specs.Names.{Named}
use Rattle.view_graph.proofs.NamesViews.{names_in_term-call}
use Rattle.view_graph.proofs.names.terms.+term.Goals as goal

pub term-returns-in_ok-dictionary_argument-in-Call :
    goal.term-returns-in_ok-dictionary_argument-in-Call
term-returns-in_ok-dictionary_argument-in-Call t c =
    subst (λ (names : List Named). OnOk c.terms.result (c.terms.new.out ≡ names))
    (names_in_term-call c.args.ast.now.at c.args.ast.now.form c.in-Call.name c.in-Call.args c.in-Call.is
    c.as_str.result.now c.as_str.ensures c.deref.result.now c.deref-in-Call.result.now c.deref.ensures.value c.deref-in-Call.ensures.value
    c.args.out.now c.dictionary_argument.new.out c.in_ok-dictionary_argument-in-Call.ensures)
    c.terms.ensures
