use Rattle.std.proofs.Common.{◌≡◌, List, OnOk, subst}
use Rattle.aql_lexer.specs.Kinds.{Kind}
use Rattle.aql_syntax.proofs.Writing.{after_two}
use Rattle.aql_syntax.proofs.printing.queries.tail.Goals as goal

pub returns : goal.returns
returns c = rw (← c.deref.ensures.value)
    (subst (λ (ks : List Kind). OnOk c.limit.result (c.limit.new.out ≡ ks))
    (after_two _ _ _ _ _ c.in_ok-conds.ensures c.in_ok-cons.ensures _)
    c.limit.ensures)
