use Rattle.std.proofs.Common.{◌∙◌}
use Rattle.regex.specs.Strings.{matcher_pattern}
use Rattle.aql_regex_extract.specs.Patterns.{whole_form}
use Rattle.aql_regex_extract.proofs.MatchesAlike.{has_match-of_pattern}
use Rattle.aql_regex_extract.proofs.whole_matcher.WholeMatcher.has_match.Goals as goal

pub returns-then-admits-clause-found : goal.returns-then-admits-clause-found
returns-then-admits-clause-found c = λ pattern whole.
    c.is_match.ensures.found
    ∙ has_match-of_pattern (matcher_pattern c.args.self.now.matcher) (whole_form pattern) c.args.text.now whole.finds (λ k. (c.type_inv.text k).fits)
