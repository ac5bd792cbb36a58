use Rattle.std.proofs.Common.{rules, tests}
use Rattle.std.proofs.lemmas.Iterator.{YieldsList-from_slice}
use Rattle.std.proofs.lemmas.Iterator.Search.{all_from_yields_List}
use Rattle.aql_lexer.specs.Tokens.{goes_on_word}
use Rattle.aql_syntax.proofs.names.all_go_on_word.Goals as goal

pub returns : goal.returns
returns c = all_from_yields_List goes_on_word _ _ _ c.all.ensures.ran (YieldsList-from_slice _ c.iter.ensures.rest) (λ x b q k. search (rules, tests))
