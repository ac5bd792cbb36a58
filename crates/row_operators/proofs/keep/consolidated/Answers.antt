use Rattle.row_operators.proofs.Lying.{among_lie}
use Rattle.row_operators.proofs.keep.consolidated.Goals as goal

pub returns-clause-lies : goal.returns-clause-lies
returns-clause-lies c =
    let among = c.in_ok-out.ensures.among in
    among_lie c.args.doc.now c.in_ok-out.out.rows among.0 c.args.rows.rows among.1 c.requires.in_document
