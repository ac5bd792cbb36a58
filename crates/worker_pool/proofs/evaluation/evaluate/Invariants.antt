use Rattle.worker_pool.proofs.evaluation.evaluate.Given as goal

abbrev pub ghosts-evaluate_as : goal.ghosts-evaluate_as
ghosts-evaluate_as g a = record { plan = a.plan.now; docs = a.docs.now }
