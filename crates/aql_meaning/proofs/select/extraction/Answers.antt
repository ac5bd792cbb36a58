use Rattle.aql_meaning.proofs.select.extraction.Goals as goal

pub returns-clause-lies : goal.returns-clause-lies
returns-clause-lies c = c.in_ok-out.ensures.lies c.args.doc.now c.in_ok-stay.ensures.lies
