use Rattle.std.proofs.Common.{rules, ◌≡◌}
use Rattle.std.proofs.lemmas.Result.{IfOk-weaker}
use Rattle.aql_base.specs.Bags.{SameBag}
use Rattle.aql_base.specs.BagLaws.{SameBag-is}
use Rattle.row_values.specs.Rows.{RowList}
use Rattle.aql_typed.specs.Meaning.{document_rows}
use Rattle.plan_operators.proofs.operator.apply.Goals as goal

pub returns-in-Doc-clause-rows : goal.returns-in-Doc-clause-rows
returns-in-Doc-clause-rows c =
    let means = document_rows c.args.tools.now c.args.doc.now in
    let same = IfOk-weaker c.document_rows.result (λ (out : RowList). out.rows ≡ means) (λ (out : RowList). SameBag out.rows means) (λ out is. SameBag-is out.rows means is) (c.document_rows.ensures.rows c.args.tools.now) in
    rw c.in-Doc.is same

pub returns-in-DictPart-clause-lies : goal.returns-in-DictPart-clause-lies
returns-in-DictPart-clause-lies c = c.part_of.ensures.lies c.args.doc.now (search rules)

pub returns-in-Cross-clause-lies : goal.returns-in-Cross-clause-lies
returns-in-Cross-clause-lies c = c.cross.ensures.lies c.args.doc.now (search rules) (search rules)

pub returns-in-Union-clause-lies : goal.returns-in-Union-clause-lies
returns-in-Union-clause-lies c = c.union.ensures.lies c.args.doc.now c.requires.left_in_document c.requires.right_in_document

pub returns-in-Minus-clause-lies : goal.returns-in-Minus-clause-lies
returns-in-Minus-clause-lies c = c.difference.ensures.lies c.args.doc.now c.requires.left_in_document

pub returns-in-Group-clause-lies : goal.returns-in-Group-clause-lies
returns-in-Group-clause-lies c = c.grouped_in_order.ensures.lies c.args.doc.now (search rules)

pub returns-clause-lies : goal.returns-clause-lies
returns-clause-lies c = c.order_limit.ensures.lies c.args.doc.now c.requires.left_in_document
