use Rattle.std.proofs.Common.{◌≡◌, List, OnOk, subst}
use Rattle.aql_lexer.specs.Kinds.{Kind}
use Rattle.aql_syntax.proofs.Writing.{after_three}
use Rattle.aql_syntax.proofs.printing.extractions.dictionary.Goals as goal

pub returns : goal.returns
returns c =
    subst (λ (ks : List Kind). OnOk c.on_column.result (c.on_column.new.out ≡ ks))
    (after_three _ _ _ _ _ c.in_ok-word.ensures c.in_ok-dictionary.ensures _ _ c.in_ok-flag.ensures _)
    c.on_column.ensures
