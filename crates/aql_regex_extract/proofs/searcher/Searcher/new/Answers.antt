use Rattle.aql_regex_extract.proofs.Trees.{Finds-matcher}
use Rattle.aql_regex_extract.proofs.searcher.Searcher.new.Goals as goal

pub invariant_of-result : goal.invariant_of-result
invariant_of-result c =
    Finds-matcher _ c.pattern.inside.plain _ _ c.in_ok-matcher.ensures.pattern c.pattern.invariant.plain c.pattern.view_is
