use Rattle.std.proofs.Common.{sym, subst}
use Rattle.std.proofs.lemmas.Result.{IfOk-weaker}
use Rattle.algebra.specs.ItemLaws.{item-below}
use Rattle.run_tables.specs.Items.{ItemRows, IsResult}
use Rattle.run_tables.proofs.Computing.{given-by}
use Rattle.run_tables.proofs.published.Published.compute.Goals as goal

pub node_and_document-requires-clause-there : goal.node_and_document-requires-clause-there
node_and_document-requires-clause-there g c = item-below g.W.Work.plan g.W.Work.docs c.args.item c.requires.inputs.of_item

pub apply-requires : goal.apply-requires
apply-requires g c =
    let given =
    given-by _ _ _ _ _ _ c.requires.inputs _ _ _ _ _ _ _ _ c.node_and_document.ensures.at c.node_and_document.ensures.node c.node_and_document.ensures.doc c.rows_given-left_rows.ensures.known c.rows_given-right_rows.ensures.known
    c.requires.work.0 c.nodes.ensures c.nodes-2.ensures c.inputs-left_input.ensures.left c.inputs-left_input.ensures.right c.rows_given-left_rows.ensures.rows c.rows_given-right_rows.ensures.rows in
    record { left_in_document = given.left_lies; right_in_document = given.right_lies; made = given.may_read }

pub new-requires : goal.new-requires
new-requires g c =
    let given =
    given-by _ _ _ _ _ _ c.requires.inputs _ _ _ _ _ _ _ _ c.node_and_document.ensures.at c.node_and_document.ensures.node c.node_and_document.ensures.doc c.rows_given-left_rows.ensures.known c.rows_given-right_rows.ensures.known
    c.requires.work.0 c.nodes.ensures c.nodes-2.ensures c.inputs-left_input.ensures.left c.inputs-left_input.ensures.right c.rows_given-left_rows.ensures.rows c.rows_given-right_rows.ensures.rows in
    record { is_result = given.result c.args.tools.now c.requires.work.2 c.in_ok-rows.rows c.in_ok-rows.ensures.rows c.in_ok-rows.ensures.width c.in_ok-rows.ensures.lies }

pub returns-clause-is_result : goal.returns-clause-is_result
returns-clause-is_result g c =
    let given =
    given-by _ _ _ _ _ _ c.requires.inputs _ _ _ _ _ _ _ _ c.node_and_document.ensures.at c.node_and_document.ensures.node c.node_and_document.ensures.doc c.rows_given-left_rows.ensures.known c.rows_given-right_rows.ensures.known
    c.requires.work.0 c.nodes.ensures c.nodes-2.ensures c.inputs-left_input.ensures.left c.inputs-left_input.ensures.right c.rows_given-left_rows.ensures.rows c.rows_given-right_rows.ensures.rows in
    let result = given.result c.args.tools.now c.requires.work.2 c.in_ok-rows.rows c.in_ok-rows.ensures.rows c.in_ok-rows.ensures.width c.in_ok-rows.ensures.lies in
    IfOk-weaker c.new.result _ _ (λ found e. subst (λ (v : ItemRows). IsResult g.W.Work.plan g.W.Work.docs c.args.item v.rows) (sym e) result) c.new.ensures.published
