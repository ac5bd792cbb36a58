use Rattle.span_joins_tests.proofs.tests.gaps_in_characters.Given as goal

abbrev pub ghosts-pairs_of : goal.ghosts-pairs_of
ghosts-pairs_of g a = record { name = a.blank.name; parts = a.blank.parts }
