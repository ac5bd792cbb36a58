use Rattle.std.proofs.Common.{◌≡◌, ◌∙◌, ◌+◌, ℕ, List, Option, length, sym, ap, subst, arith}
use Rattle.std.proofs.lemmas.Option.{same_Some}
use Rattle.row_values.specs.Rows.{RowList}
use Rattle.algebra.specs.declared.node.Node.{Node}
use Rattle.algebra.specs.Inputs.{left_input, right_input, IsAmong}
use Rattle.plan_operators.specs.Filling.{HasAsked, IsInput, IsRightInput, IsThere, rows_found}
use Rattle.plan_operators.specs.Given.{input_rows}
use Rattle.plan_operators.specs.Readers.{reads_by, reads_through}
use Rattle.plan_operators.proofs.Boards.{left_found, right_found}
use Rattle.plan_operators.proofs.Reading.{among-more, node-at, reads-both}
use Rattle.plan_operators.proofs.Taking.{off-both}
use Rattle.plan_operators.proofs.filling.rows_of.Goals as goal

pub rows_by-requires-clause-left : goal.rows_by-requires-clause-left
rows_by-requires-clause-left c = λ other at.
    let lists = c.args.tools.now in
    let doc = c.args.doc.now in
    let nodes = c.args.nodes.now in
    let node = c.get-node.result.now in
    let here = node-at nodes c.args.source node c.requires.source_there c.get-node.ensures.node in
    let is : node ≡ other = same_Some node other (sym here ∙ at) in
    let left = c.inputs-left.result.0 in
    let right = c.inputs-left.result.1 in
    let old : List (Option RowList) = c.args.board.now.items in
    let mid : List (Option RowList) = c.given_up-left_given.new.board.items in
    let new : List (Option RowList) = c.given_up-right_given.new.board.items in
    let of_left : Option RowList = c.given_up-left_given.result in
    let of_right : Option RowList = c.given_up-right_given.result in
    let asked : HasAsked old node = c.requires.asked node here in
    let among : IsAmong (length old) left =
    among-more left c.args.source (length old) (subst (IsAmong c.args.source) (sym c.inputs-left.ensures.left) c.get-node.ensures.at.left_lower)
    (omega (arith, c.requires.source_there, c.requires.long, c.args.board.now.ok.0)) in
    let there : IsThere old left = subst (IsThere old) (sym c.inputs-left.ensures.left) asked.left in
    let list : RowList = input_rows c.found-left_rows.result in
    let are : list ≡ rows_found nodes new left of_left = c.found-left_rows.ensures ∙ ap (λ (b : List (Option RowList)). rows_found nodes b left of_left) c.as_slice.ensures.value in
    subst (λ (x : Node). IsInput lists doc nodes (left_input x) list) is
    (subst (λ (o : Option ℕ). IsInput lists doc nodes o list) c.inputs-left.ensures.left
    (subst (IsInput lists doc nodes left) (sym are)
    (left_found lists doc nodes old mid new left right of_left of_right c.given_up-left_given.ensures.given c.given_up-left_given.ensures.none c.given_up-left_given.ensures.others
    c.given_up-right_given.ensures.given c.given_up-right_given.ensures.none c.given_up-right_given.ensures.others c.requires.board among there)))

pub rows_by-requires-clause-right : goal.rows_by-requires-clause-right
rows_by-requires-clause-right c = λ other at.
    let lists = c.args.tools.now in
    let doc = c.args.doc.now in
    let nodes = c.args.nodes.now in
    let node = c.get-node.result.now in
    let here = node-at nodes c.args.source node c.requires.source_there c.get-node.ensures.node in
    let is : node ≡ other = same_Some node other (sym here ∙ at) in
    let left = c.inputs-left.result.0 in
    let right = c.inputs-left.result.1 in
    let old : List (Option RowList) = c.args.board.now.items in
    let mid : List (Option RowList) = c.given_up-left_given.new.board.items in
    let new : List (Option RowList) = c.given_up-right_given.new.board.items in
    let of_left : Option RowList = c.given_up-left_given.result in
    let of_right : Option RowList = c.given_up-right_given.result in
    let asked : HasAsked old node = c.requires.asked node here in
    let among : IsAmong (length old) right =
    among-more right c.args.source (length old) (subst (IsAmong c.args.source) (sym c.inputs-left.ensures.right) c.get-node.ensures.at.right_lower)
    (omega (arith, c.requires.source_there, c.requires.long, c.args.board.now.ok.0)) in
    let list : RowList = input_rows c.found-right_rows.result in
    let are : list ≡ rows_found nodes new right of_right = c.found-right_rows.ensures ∙ ap (λ (b : List (Option RowList)). rows_found nodes b right of_right) c.as_slice-2.ensures.value in
    subst (λ (x : Node). IsRightInput lists doc nodes x list) is
    (subst (IsRightInput lists doc nodes node) (sym are)
    (right_found lists doc nodes old mid new left right of_left of_right c.given_up-left_given.ensures.given c.given_up-left_given.ensures.none c.given_up-left_given.ensures.others
    c.given_up-right_given.ensures.given c.given_up-right_given.ensures.none c.given_up-right_given.ensures.others c.requires.board node c.inputs-left.ensures.right among asked))

pub returns-clause-off : goal.returns-clause-off
returns-clause-off c =
    let nodes = c.args.nodes.now in
    let node = c.get-node.result.now in
    let here = node-at nodes c.args.source node c.requires.source_there c.get-node.ensures.node in
    let left = c.inputs-left.result.0 in
    let right = c.inputs-left.result.1 in
    off-both (reads_through left) (reads_through right) (reads_by nodes c.args.source) c.args.board.now.items c.given_up-left_given.new.board.items c.given_up-right_given.new.board.items c.args.readers.now.items
    c.given_up-left_given.new.readers.items c.given_up-right_given.new.readers.items c.given_up-left_given.ensures.off c.given_up-right_given.ensures.off
    (λ m.
    let sum : reads_by nodes c.args.source m ≡ reads_through (left_input node) m + reads_through (right_input node) m = reads-both nodes c.args.source node here m in
    let on_left : reads_through left m ≡ reads_through (left_input node) m = ap (λ (o : Option ℕ). reads_through o m) c.inputs-left.ensures.left in
    let on_right : reads_through right m ≡ reads_through (right_input node) m = ap (λ (o : Option ℕ). reads_through o m) c.inputs-left.ensures.right in
    omega (arith, sum, on_left, on_right))
