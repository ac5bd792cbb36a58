use Rattle.aql_bench.proofs.items.EmptyItems.timed.Given as goal

abbrev pub ghosts-worked_off : goal.ghosts-worked_off
ghosts-worked_off g a = record { plan = a.plan.now; docs = a.docs.now }
