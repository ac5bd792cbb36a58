use Rattle.std.proofs.Common.{◌≡◌, ◌++◌, OnOk, List, subst}
use Rattle.aql_lexer.specs.Kinds.{Kind}
use Rattle.aql_syntax.proofs.PrintingViews.{printed_term-call}
use Rattle.aql_syntax.proofs.printing.expressions.+expression.Goals as goal

pub term-returns-in-Call : goal.term-returns-in-Call
term-returns-in-Call t c =
    subst (λ (ks : List Kind). OnOk c.call.result (c.call.new.out ≡ c.args.out.now ++ ks))
    (printed_term-call c.args.ast.now.at c.args.ast.now.form c.in-Call.name c.as_str-in-Call.result.now c.in-Call.args c.deref.result.now
    c.in-Call.is c.as_str-in-Call.ensures c.deref.ensures.value)
    c.call.ensures
