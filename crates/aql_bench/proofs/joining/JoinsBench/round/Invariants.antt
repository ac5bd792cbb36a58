use Rattle.aql_bench.proofs.joining.JoinsBench.round.Given as goal

abbrev pub ghosts-joined : goal.ghosts-joined
ghosts-joined a = record { name = a.blank.name; parts = a.blank.parts }
