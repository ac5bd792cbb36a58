use Rattle.std.proofs.Common.{◌≡◌, List, OnOk, subst}
use Rattle.aql_lexer.specs.Kinds.{Kind}
use Rattle.aql_syntax.proofs.Writing.{after_three}
use Rattle.aql_syntax.proofs.printing.queries.consolidate.Goals as goal

pub returns : goal.returns
returns c =
    subst (λ (ks : List Kind). OnOk c.policy.result (c.policy.new.out ≡ ks))
    (after_three _ _ _ _ _ c.in_ok-word.ensures c.in_ok-word-2.ensures _ _ c.in_ok-term.ensures _)
    c.policy.ensures
