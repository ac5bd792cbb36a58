use Rattle.aql_meaning.proofs.query.extraction_of.Goals as goal

pub extraction-requires-clause-in_document : goal.extraction-requires-clause-in_document
extraction-requires-clause-in_document c = c.lent-rows.ensures.lies c.args.doc.now c.requires.in_document c.requires.own_in_document
