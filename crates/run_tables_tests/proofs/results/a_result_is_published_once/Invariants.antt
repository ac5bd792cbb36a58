use Rattle.run_tables_tests.proofs.results.a_result_is_published_once.Given as goal

abbrev pub ghosts-publish_twice : goal.ghosts-publish_twice
ghosts-publish_twice g a = record { plan = a.plan.now; docs = a.docs.now }
