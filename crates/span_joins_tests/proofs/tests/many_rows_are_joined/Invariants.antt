use Rattle.span_joins_tests.proofs.tests.many_rows_are_joined.Given as goal

abbrev pub ghosts-number_of : goal.ghosts-number_of
ghosts-number_of g a = record { name = a.blank.name; parts = a.blank.parts }
