use Rattle.span_joins_tests.proofs.tests.a_join_back_has_the_left_row_in_front.Given as goal

abbrev pub ghosts-pairs_of : goal.ghosts-pairs_of
ghosts-pairs_of g a = record { name = a.blank.name; parts = a.blank.parts }
