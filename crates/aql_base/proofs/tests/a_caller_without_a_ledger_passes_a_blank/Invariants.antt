use Rattle.aql_base.proofs.tests.a_caller_without_a_ledger_passes_a_blank.Given as goal

abbrev pub ghosts-taken : goal.ghosts-taken
ghosts-taken g a = record { name = a.blank.name; parts = a.blank.parts }
