use Rattle.std.proofs.Common.{ℕ, List, Bor, rules, tests}
use Rattle.std.proofs.lemmas.Iterator.{YieldsList-from_slice}
use Rattle.std.proofs.lemmas.Iterator.Search.{any_from_yields_List}
use Rattle.aql_syntax.specs.Spellings.{same_word, is_reserved}
use Rattle.aql_syntax.proofs.names.is_reserved.Goals as goal

pub returns : goal.returns
unfolding is_reserved
returns c =
    any_from_yields_List (λ (reserved : Bor (List ℕ)). same_word c.args.word.now reserved.now) _ _ _ c.any.ensures.ran
    (YieldsList-from_slice _ c.iter.ensures.rest) (λ x b q k. search (rules, tests))
