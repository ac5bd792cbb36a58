use Rattle.std.proofs.Common.{◌≡◌, ℕ, Some, sym, subst, ⊎_elim}
use Rattle.row_values.specs.Rows.{RowList, RowsLieIn}
use Rattle.algebra.specs.Inputs.{left_input, right_input}
use Rattle.algebra.specs.Folds.{of_input}
use Rattle.algebra.specs.Shapes.{no_shape, shapes_of}
use Rattle.plan_operators.specs.Boards.{IsOf}
use Rattle.plan_operators.specs.Filling.{IsInput, IsPassing, IsRightInput}
use Rattle.plan_operators.specs.Given.{input_rows, MayRead}
use Rattle.plan_operators.proofs.Boards.{may_read, passed_is, right_lies, right_wide, rows_are}
use Rattle.plan_operators.proofs.Reading.{node-at}
use Rattle.plan_operators.proofs.filling.rows_by.Goals as goal

pub returns-then-source-n-clause-rows : goal.returns-then-source-n-clause-rows
returns-then-source-n-clause-rows c =
    let lists = c.args.tools.now in
    let doc = c.args.doc.now in
    let nodes = c.args.nodes.now in
    let node = c.get-node.result.now in
    let at = node-at nodes c.args.source node c.requires.source_there c.get-node.ensures.node in
    let left = input_rows c.args.left in
    let right = input_rows c.args.right in
    let l = c.requires.left node at in
    let r = c.requires.right node at in
    subst (λ (k : ℕ). IsOf lists doc nodes k c.in_ok-rows.rows) c.if-source-n.true
    (rows_are lists doc nodes c.args.source node c.get-node.ensures.at left right l r c.in_ok-rows.rows c.in_ok-rows.ensures.rows
    (c.in_ok-rows.ensures.width _ _ l.wide (right_wide lists doc nodes c.args.source node c.get-node.ensures.at left right l r)) c.in_ok-rows.ensures.lies)

pub apply_to_passed-requires-clause-left_in_document : goal.apply_to_passed-requires-clause-left_in_document
apply_to_passed-requires-clause-left_in_document c =
    let node = c.get-node.result.now in
    let at = node-at c.args.nodes.now c.args.source node c.requires.source_there c.get-node.ensures.node in
    let l = c.requires.left node at in
    subst (λ (list : RowList). RowsLieIn c.args.doc.now list.rows) (sym c.rows.ensures) l.lies

pub apply_to_passed-requires-clause-right_in_document : goal.apply_to_passed-requires-clause-right_in_document
apply_to_passed-requires-clause-right_in_document c =
    let node = c.get-node.result.now in
    let at = node-at c.args.nodes.now c.args.source node c.requires.source_there c.get-node.ensures.node in
    subst (λ (list : RowList). RowsLieIn c.args.doc.now list.rows) (sym c.rows-else-source-n.ensures)
    (right_lies c.args.tools.now c.args.doc.now c.args.nodes.now c.args.source node c.get-node.ensures.at (input_rows c.args.left) (input_rows c.args.right) (c.requires.left node at) (c.requires.right node at))

pub apply_to_passed-requires-clause-made : goal.apply_to_passed-requires-clause-made
apply_to_passed-requires-clause-made c =
    let node = c.get-node.result.now in
    let at = node-at c.args.nodes.now c.args.source node c.requires.source_there c.get-node.ensures.node in
    subst (λ (list : RowList). MayRead node list c.rows-else-source-n.result.now) (sym c.rows.ensures)
    (subst (λ (list : RowList). MayRead node (input_rows c.args.left) list) (sym c.rows-else-source-n.ensures)
    (may_read c.args.tools.now c.args.doc.now c.args.nodes.now c.args.source node c.get-node.ensures.at (input_rows c.args.left) (input_rows c.args.right) (c.requires.left node at) (c.requires.right node at)))

pub apply_to_passed-requires-clause-passes : goal.apply_to_passed-requires-clause-passes
apply_to_passed-requires-clause-passes c =
    let nodes = c.args.nodes.now in
    let node = c.get-node.result.now in
    let next = c.get-next.result.now in
    let at = node-at nodes c.args.source node c.requires.source_there c.get-node.ensures.node in
    let at_next = node-at nodes c.args.n next c.requires.there c.get-next.ensures.node in
    ⊎_elim (λ (e : c.args.source ≡ c.args.n). absurd (c.if-source-n.false e)) (λ (passing : IsPassing nodes c.args.source c.args.n). passing.passes node next at at_next) c.requires.source

pub returns-clause-rows : goal.returns-clause-rows
returns-clause-rows c =
    let lists = c.args.tools.now in
    let doc = c.args.doc.now in
    let nodes = c.args.nodes.now in
    let node = c.get-node.result.now in
    let next = c.get-next.result.now in
    let at = node-at nodes c.args.source node c.requires.source_there c.get-node.ensures.node in
    let at_next = node-at nodes c.args.n next c.requires.there c.get-next.ensures.node in
    let left = c.rows.result.now in
    let right = c.rows-else-source-n.result.now in
    let l = subst (IsInput lists doc nodes (left_input node)) (sym c.rows.ensures) (c.requires.left node at) in
    let r = subst (IsRightInput lists doc nodes node) (sym c.rows-else-source-n.ensures) (c.requires.right node at) in
    let from_it : left_input next ≡ Some c.args.source =
    ⊎_elim (λ (e : c.args.source ≡ c.args.n). absurd (c.if-source-n.false e)) (λ (passing : IsPassing nodes c.args.source c.args.n). passing.from_it next at_next) c.requires.source in
    passed_is lists doc nodes c.args.source c.args.n node next from_it c.apply_to_passed.ensures.alone c.get-node.ensures.at c.get-next.ensures.at left right l r c.in_ok-passed.passed c.in_ok-passed.ensures.rows
    (c.in_ok-passed.ensures.width (of_input no_shape (shapes_of nodes) (left_input node)) (of_input no_shape (shapes_of nodes) (right_input node)) l.wide
    (right_wide lists doc nodes c.args.source node c.get-node.ensures.at left right l r)) c.in_ok-passed.ensures.lies
