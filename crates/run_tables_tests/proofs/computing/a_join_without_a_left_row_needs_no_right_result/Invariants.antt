use Rattle.run_tables_tests.proofs.computing.a_join_without_a_left_row_needs_no_right_result.Given as goal

abbrev pub ghosts-rows_of_joins : goal.ghosts-rows_of_joins
ghosts-rows_of_joins g a = record { plan = a.plan.now; docs = a.docs.now }
