use Rattle.span_joins_tests.proofs.tests.overlaps_and_contains_side_by_side.Given as goal

abbrev pub ghosts-pairs_of : goal.ghosts-pairs_of
ghosts-pairs_of g a = record { name = a.blank.name; parts = a.blank.parts }
