use Rattle.std.proofs.Common.{◌≡◌, OnOk, List, subst}
use Rattle.aql_tables.specs.Mentions.{Mention}
use Rattle.aql_tables.proofs.MentionsViews.{mentions_in_term-call}
use Rattle.aql_tables.proofs.walk.terms.+term.Goals as goal

pub term-returns-in_ok-arguments-in-Call :
    goal.term-returns-in_ok-arguments-in-Call
term-returns-in_ok-arguments-in-Call t c =
    subst (λ (ms : List Mention). OnOk c.terms.result (c.terms.new.out ≡ ms))
    (mentions_in_term-call c.args.ast.now.at c.args.ast.now.form c.in-Call.name c.in-Call.args c.in-Call.is
    c.as_str-in-Call.result.now c.as_str-in-Call.ensures c.deref.result.now c.deref-in-Call.result.now c.deref.ensures.value c.deref-in-Call.ensures.value
    c.args.out.now c.arguments.new.out c.in_ok-arguments-in-Call.ensures)
    c.terms.ensures
