use Rattle.std.proofs.Common.{◌≡◌, List, OnOk, subst}
use Rattle.aql_lexer.specs.Kinds.{Kind}
use Rattle.aql_syntax.proofs.Writing.{after_four}
use Rattle.aql_syntax.proofs.printing.queries.clauses.Goals as goal

pub returns : goal.returns
returns c = rw (← c.deref.ensures.value, ← c.deref-2.ensures.value, ← c.deref-3.ensures.value)
    (subst (λ (ks : List Kind). OnOk c.limit.result (c.limit.new.out ≡ ks))
    (after_four _ _ _ _ _ c.in_ok-conds.ensures c.in_ok-cons.ensures _ _ c.in_ok-keys.ensures _ _ c.in_ok-keys-2.ensures _)
    c.limit.ensures)
