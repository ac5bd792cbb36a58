use Rattle.std.proofs.Common.{◌≡◌, ◌++◌, ◌∷◌, [], List, OnOk, subst}
use Rattle.aql_lexer.specs.Kinds.{Kind}
use Rattle.aql_lexer.specs.Kinds as k
use Rattle.aql_syntax.proofs.Writing.{after_three}
use Rattle.aql_syntax.proofs.printing.extractions.separation.Goals as goal

pub returns : goal.returns
returns c =
    subst (λ (ks : List Kind). OnOk c.word-3.result (c.word-3.new.self ≡ ks))
    (after_three _ _ _ _ _ c.in_ok-word.ensures c.in_ok-word-2.ensures _ _ c.in_ok-range.ensures _)
    (subst (λ unit. OnOk c.word-3.result (c.word-3.new.self ≡ c.range.new.out ++ k.word unit ∷ [])) c.unit.ensures c.word-3.ensures)
