use Rattle.span_joins_tests.proofs.tests.gaps_in_tokens.Given as goal

abbrev pub ghosts-by_tokens : goal.ghosts-by_tokens
ghosts-by_tokens g a = record { name = a.blank.name; parts = a.blank.parts }
