use Rattle.std.proofs.Common.{◌≡◌, List, OnOk, subst}
use Rattle.aql_lexer.specs.Kinds.{Kind}
use Rattle.aql_syntax.proofs.Writing.{after_three}
use Rattle.aql_syntax.proofs.printing.require.Goals as goal

pub returns : goal.returns
returns c =
    subst (λ (ks : List Kind). OnOk c.columns.result (c.columns.new.out ≡ ks))
    (after_three _ _ _ _ _ c.in_ok-word.ensures c.in_ok-word-2.ensures _ _ c.in_ok-word-3.ensures _)
    c.columns.ensures
