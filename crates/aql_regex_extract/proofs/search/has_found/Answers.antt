use Rattle.std.proofs.Common.{◌∙◌}
use Rattle.regex.specs.Strings.{matcher_pattern}
use Rattle.aql_regex_extract.proofs.MatchesAlike.{has_match-of_pattern}
use Rattle.aql_regex_extract.proofs.search.has_found.Goals as goal

pub returns-clause-found : goal.returns-clause-found
returns-clause-found c = λ pattern finds.
    c.is_match.ensures.found ∙ has_match-of_pattern (matcher_pattern c.args.matcher.now) pattern c.args.text.now finds (λ k. (c.type_inv.text k).fits)
