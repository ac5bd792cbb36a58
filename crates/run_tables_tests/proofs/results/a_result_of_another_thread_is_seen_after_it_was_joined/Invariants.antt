use Rattle.run_tables_tests.proofs.results.a_result_of_another_thread_is_seen_after_it_was_joined.Given as goal

abbrev pub ghosts-publish_beside : goal.ghosts-publish_beside
ghosts-publish_beside g a = record { plan = a.plan.now; docs = a.docs.now }
