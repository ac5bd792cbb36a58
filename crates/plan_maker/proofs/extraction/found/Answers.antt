use Rattle.std.proofs.Common.{◌∙◌}
use Rattle.plan_maker.proofs.Giving.{gives-regex, gives-token_regex}
use Rattle.plan_maker.proofs.extraction.found.Goals as goal

pub returns-in_ok-n-in-Regex-clause-gives : goal.returns-in_ok-n-in-Regex-clause-gives
returns-in_ok-n-in-Regex-clause-gives c =
    rw c.in-Regex.is (λ can. gives-regex _ _ _ _ can.gives _ _ _ c.in-Regex.groups.items (c.in_ok-groups-in-Regex.ensures ∙ c.as_slice.ensures.value) _ _ c.in_ok-n-in-Regex.ensures.stands)

pub returns-in_ok-n-in-TokenRegex-clause-gives : goal.returns-in_ok-n-in-TokenRegex-clause-gives
returns-in_ok-n-in-TokenRegex-clause-gives c =
    rw c.in-TokenRegex.is (λ can. gives-token_regex _ _ _ _ can.gives _ _ _ _ _ c.in-TokenRegex.groups.items (c.in_ok-groups-in-TokenRegex.ensures ∙ c.as_slice-in-TokenRegex.ensures.value) _ _ c.in_ok-n-in-TokenRegex.ensures.stands)

pub returns-in_ok-n-in-Dict-clause-gives : goal.returns-in_ok-n-in-Dict-clause-gives
returns-in_ok-n-in-Dict-clause-gives c = rw c.in-Dict.is (λ can. c.in_ok-n-in-Dict.ensures.gives can)
