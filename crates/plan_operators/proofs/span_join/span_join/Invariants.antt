use Rattle.plan_operators.proofs.span_join.span_join.Given as goal

abbrev pub ghosts-joined : goal.ghosts-joined
ghosts-joined a = record { name = a.blank.name; parts = a.blank.parts }
