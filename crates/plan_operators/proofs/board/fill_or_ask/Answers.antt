use Rattle.std.proofs.Common.{◌≡◌, ◌∙◌, ◌<◌, ◌≤◌, ℕ, List, Option, Some, length, sym, ap, subst, arith}
use Rattle.std.specs.Prelude.{slice_get, slice_index_or}
use Rattle.std.proofs.lemmas.Option.{same_Some, slice_get-get_or}
use Rattle.row_values.specs.Rows.{RowList}
use Rattle.scalar_ops.specs.Tables.{Lists}
use Rattle.algebra.specs.declared.node.Node.{Node}
use Rattle.plan_operators.specs.Boards.{IsOf}
use Rattle.plan_operators.specs.Filling.{HasAsked, IsAbsentInput, IsSourceOf, IsTakenOff}
use Rattle.plan_operators.specs.Readers.{number_of_readers, reads_by}
use Rattle.plan_operators.proofs.Reading.{node-at}
use Rattle.plan_operators.proofs.Standing.{evaluated-next, reads-counted, source-asked, source-waits, waiting-there}
use Rattle.plan_operators.proofs.board.fill_or_ask.Goals as goal

pub get-node-requires : goal.get-node-requires
get-node-requires c =
    let plan = c.args.plan.now in
    let there = waiting-there c.args.doc.now plan c.args.board.now.items c.args.readers.now.items c.requires.stands c.args.n c.requires.waits in
    let same : length c.nodes-nodes.result.now ≡ length plan.nodes = ap (λ (ns : List Node). length ns) c.nodes-nodes.ensures in
    omega (arith, there, same, c.source_of-source.ensures.lower)

pub rows_of-requires-clause-asked : goal.rows_of-requires-clause-asked
rows_of-requires-clause-asked c = λ other at.
    let node = c.get-node.result.now in
    let nodes = c.nodes-nodes.result.now in
    let plan = c.args.plan.now in
    let there = waiting-there c.args.doc.now plan c.args.board.now.items c.args.readers.now.items c.requires.stands c.args.n c.requires.waits in
    let same : length nodes ≡ length plan.nodes = ap (λ (ns : List Node). length ns) c.nodes-nodes.ensures in
    let here = node-at nodes c.source_of-source.result node (omega (arith, there, same, c.source_of-source.ensures.lower)) c.get-node.ensures.node in
    subst (λ (x : Node). HasAsked c.args.board.now.items x) (same_Some node other (sym here ∙ at)) (subst (λ (b : List (Option RowList)). HasAsked b node) c.as_slice-3.ensures.value c.in-None.ensures.none)

pub rows_of-requires-clause-read : goal.rows_of-requires-clause-read
rows_of-requires-clause-read c = λ i.
    let plan = c.args.plan.now in
    let doc = c.args.doc.now in
    let board : List (Option RowList) = c.args.board.now.items in
    let readers : List ℕ = c.args.readers.now.items in
    let n = c.args.n in
    let source = c.source_of-source.result in
    let is = c.requires.stands in
    let there : n < length plan.nodes = waiting-there doc plan board readers is n c.requires.waits in
    let from_source : IsSourceOf plan.nodes board readers n source =
    subst (λ (rs : List ℕ). IsSourceOf plan.nodes board rs n source) c.as_slice-2.ensures.value
    (subst (λ (b : List (Option RowList)). IsSourceOf plan.nodes b c.as_slice-2.result.now n source) c.as_slice.ensures.value
    (subst (λ (ns : List Node). IsSourceOf ns c.as_slice.result.now c.as_slice-2.result.now n source) c.nodes-nodes.ensures c.source_of-source.ensures.source)) in
    let waiting = source-waits doc plan board readers is n (slice_index_or plan.nodes n c.get-node.result.now) (slice_get-get_or plan.nodes n c.get-node.result.now there) c.requires.waits c.requires.needed source from_source in
    subst (λ (ns : List Node). reads_by ns source i ≤ number_of_readers readers i) (sym c.nodes-nodes.ensures) (reads-counted doc plan board readers is source i waiting)

pub returns-in-Some-clause-asked : goal.returns-in-Some-clause-asked
returns-in-Some-clause-asked c =
    let plan = c.args.plan.now in
    let doc = c.args.doc.now in
    let board : List (Option RowList) = c.args.board.now.items in
    let readers : List ℕ = c.args.readers.now.items in
    let n = c.args.n in
    let node = c.get-node.result.now in
    let source = c.source_of-source.result in
    let is = c.requires.stands in
    let there : n < length plan.nodes = waiting-there doc plan board readers is n c.requires.waits in
    let lower : source ≤ n = c.source_of-source.ensures.lower in
    let from_source : IsSourceOf plan.nodes board readers n source =
    subst (λ (rs : List ℕ). IsSourceOf plan.nodes board rs n source) c.as_slice-2.ensures.value
    (subst (λ (b : List (Option RowList)). IsSourceOf plan.nodes b c.as_slice-2.result.now n source) c.as_slice.ensures.value
    (subst (λ (ns : List Node). IsSourceOf ns c.as_slice.result.now c.as_slice-2.result.now n source) c.nodes-nodes.ensures c.source_of-source.ensures.source)) in
    let at : slice_get plan.nodes source ≡ Some node =
    node-at plan.nodes source node (omega (arith, there, lower)) (subst (λ (ns : List Node). node ≡ slice_index_or ns source node) c.nodes-nodes.ensures c.get-node.ensures.node) in
    source-asked doc plan board readers is n c.requires.waits c.requires.needed source from_source lower node (slice_index_or plan.nodes n node) at (slice_get-get_or plan.nodes n node there)
    c.get-node.ensures.at.left_lower c.get-node.ensures.at.right_lower c.in-Some.input (subst (λ (b : List (Option RowList)). IsAbsentInput b node c.in-Some.input) c.as_slice-3.ensures.value c.in-Some.ensures.one)

pub returns-in_ok-rows-in-None-clause-evaluated : goal.returns-in_ok-rows-in-None-clause-evaluated
returns-in_ok-rows-in-None-clause-evaluated c =
    let plan = c.args.plan.now in
    let doc = c.args.doc.now in
    let board : List (Option RowList) = c.args.board.now.items in
    let readers : List ℕ = c.args.readers.now.items in
    let mid : List (Option RowList) = c.rows_of.new.board.items in
    let mid_readers : List ℕ = c.rows_of.new.readers.items in
    let new : List (Option RowList) = c.put.new.board.items in
    let new_readers : List ℕ = c.put.new.readers.items in
    let n = c.args.n in
    let node = c.get-node.result.now in
    let source = c.source_of-source.result in
    let list = c.in_ok-rows-in-None.rows in
    let is = c.requires.stands in
    let there : n < length plan.nodes = waiting-there doc plan board readers is n c.requires.waits in
    let from_source : IsSourceOf plan.nodes board readers n source =
    subst (λ (rs : List ℕ). IsSourceOf plan.nodes board rs n source) c.as_slice-2.ensures.value
    (subst (λ (b : List (Option RowList)). IsSourceOf plan.nodes b c.as_slice-2.result.now n source) c.as_slice.ensures.value
    (subst (λ (ns : List Node). IsSourceOf ns c.as_slice.result.now c.as_slice-2.result.now n source) c.nodes-nodes.ensures c.source_of-source.ensures.source)) in
    let off : IsTakenOff (reads_by plan.nodes source) board readers mid mid_readers =
    subst (λ (ns : List Node). IsTakenOff (reads_by ns source) board readers mid mid_readers) c.nodes-nodes.ensures c.rows_of.ensures.off in
    let is_list : IsOf plan.lists doc plan.nodes n list =
    subst (λ (ns : List Node). IsOf plan.lists doc ns n list) c.nodes-nodes.ensures (subst (λ (lists : Lists). IsOf lists doc c.nodes-nodes.result.now n list) c.requires.of_plan c.in_ok-rows-in-None.ensures.rows) in
    evaluated-next doc plan board readers is n (slice_index_or plan.nodes n node) (slice_get-get_or plan.nodes n node there) c.requires.waits c.requires.needed source from_source mid new mid_readers new_readers off list
    is_list (sym c.put.new.board.ok.0 ∙ (c.put.ensures.long ∙ c.rows_of.new.board.ok.0)) (sym c.put.new.readers.ok.0 ∙ (c.put.ensures.readers_long ∙ c.rows_of.new.readers.ok.0)) c.put.ensures.there c.put.ensures.others
    c.put.ensures.passed c.put.ensures.as_read
