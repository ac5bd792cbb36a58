use Rattle.std.proofs.Common.{◌≡◌, ◌∙◌, ℕ, ◌+◌, ◌<◌, List, [], ◌∷◌, ◌++◌, length, take, set, get_or, slice_get, ap, sym, subst, arith, Some}
use Rattle.std.proofs.lemmas.List.{take_more}
use Rattle.std.proofs.lemmas.Option.{same_Some, slice_get_within, slice_get-get_or}
use Rattle.algebra.specs.declared.node.Node.{Node}
use Rattle.algebra.specs.Growth.{Stands}
use Rattle.algebra.specs.Inputs.{left_input, right_input, with_inputs, IsAmong}
use Rattle.algebra.specs.Mapping.{new_number}
use Rattle.algebra.specs.Nodes.{IsNode}
use Rattle.algebra.specs.Shapes.{shapes_of}
use Rattle.share_plan.specs.Marks.{IsArranged}
use Rattle.share_plan.specs.Walks.{IsReady}
use Rattle.share_plan.proofs.Arranging.{AreLeft, left_numbered, right_numbered, may_be_put, arranged-push, left-more}
use Rattle.share_plan.proofs.pruning.kept_nodes.Goals as goal

pub taken-requires : goal.taken-requires
taken-requires c =
    let numbers = c.args.numbers.now in
    let k = c.loop-i.i-index in
    let i = get_or numbers k 0 in
    let ready : IsReady c.args.old (take k numbers) i = c.requires.ready k i (slice_get-get_or numbers k 0 c.loop-i-test.true) in
    let there : slice_get c.loop-i.rest.items i ≡ Some ready.node = c.loop-i.invariant.left i ready.node ready.at ready.fresh in
    record { there = slice_get_within c.loop-i.rest.items i ready.node there }

pub renumbered-node-requires-clause-left : goal.renumbered-node-requires-clause-left
renumbered-node-requires-clause-left c =
    let numbers = c.args.numbers.now in
    let k = c.loop-i.i-index in
    let i = get_or numbers k 0 in
    let ready : IsReady c.args.old (take k numbers) i = c.requires.ready k i (slice_get-get_or numbers k 0 c.loop-i-test.true) in
    let there : slice_get c.loop-i.rest.items i ≡ Some ready.node = c.loop-i.invariant.left i ready.node ready.at ready.fresh in
    let is : c.taken.result ≡ ready.node = same_Some c.taken.result ready.node (c.taken.ensures.node ∙ there) in
    subst (λ (ts : List ℕ). IsAmong (length ts) (left_input c.taken.result)) (sym c.as_slice.ensures.value)
    (subst (λ (x : Node). IsAmong (length c.loop-i.to.items) (left_input x)) (sym is)
    (left_numbered (take k numbers) c.args.old c.loop-i.nodes c.loop-i.to.items c.loop-i.invariant.arranged c.into_vec-rest.ensures.plan i ready))

pub renumbered-node-requires-clause-right : goal.renumbered-node-requires-clause-right
renumbered-node-requires-clause-right c =
    let numbers = c.args.numbers.now in
    let k = c.loop-i.i-index in
    let i = get_or numbers k 0 in
    let ready : IsReady c.args.old (take k numbers) i = c.requires.ready k i (slice_get-get_or numbers k 0 c.loop-i-test.true) in
    let there : slice_get c.loop-i.rest.items i ≡ Some ready.node = c.loop-i.invariant.left i ready.node ready.at ready.fresh in
    let is : c.taken.result ≡ ready.node = same_Some c.taken.result ready.node (c.taken.ensures.node ∙ there) in
    subst (λ (ts : List ℕ). IsAmong (length ts) (right_input c.taken.result)) (sym c.as_slice.ensures.value)
    (subst (λ (x : Node). IsAmong (length c.loop-i.to.items) (right_input x)) (sym is)
    (right_numbered (take k numbers) c.args.old c.loop-i.nodes c.loop-i.to.items c.loop-i.invariant.arranged c.into_vec-rest.ensures.plan i ready))

pub add-requires : goal.add-requires
add-requires c =
    let numbers = c.args.numbers.now in
    let k = c.loop-i.i-index in
    let i = get_or numbers k 0 in
    let ready : IsReady c.args.old (take k numbers) i = c.requires.ready k i (slice_get-get_or numbers k 0 c.loop-i-test.true) in
    let there : slice_get c.loop-i.rest.items i ≡ Some ready.node = c.loop-i.invariant.left i ready.node ready.at ready.fresh in
    let is : c.taken.result ≡ ready.node = same_Some c.taken.result ready.node (c.taken.ensures.node ∙ there) in
    let to = c.loop-i.to.items in
    let renamed : c.renumbered-node.result ≡ with_inputs (new_number to) ready.node =
    c.renumbered-node.ensures ∙ (ap (λ (ts : List ℕ). with_inputs (new_number ts) c.taken.result) c.as_slice.ensures.value ∙ ap (λ (x : Node). with_inputs (new_number to) x) is) in
    record {
      valid = subst (IsNode (shapes_of c.loop-i.nodes)) (sym renamed)
          (may_be_put (take k numbers) c.args.old c.loop-i.nodes c.loop-i.to.items c.loop-i.invariant.arranged c.into_vec-rest.ensures.plan i ready);
    }

pub index_mut-requires : goal.index_mut-requires
index_mut-requires c =
    let numbers = c.args.numbers.now in
    let k = c.loop-i.i-index in
    let i = get_or numbers k 0 in
    let ready : IsReady c.args.old (take k numbers) i = c.requires.ready k i (slice_get-get_or numbers k 0 c.loop-i-test.true) in
    let below : i < length c.args.old = slice_get_within c.args.old i ready.node ready.at in
    omega (arith, below, c.loop-i.invariant.arranged.mapped.long, c.loop-i.to.ok.0)

pub loop-i-preserved : goal.loop-i-preserved
loop-i-preserved c =
    let numbers = c.args.numbers.now in
    let k = c.loop-i.i-index in
    let i = get_or numbers k 0 in
    let ready : IsReady c.args.old (take k numbers) i = c.requires.ready k i (slice_get-get_or numbers k 0 c.loop-i-test.true) in
    let there : slice_get c.loop-i.rest.items i ≡ Some ready.node = c.loop-i.invariant.left i ready.node ready.at ready.fresh in
    let is : c.taken.result ≡ ready.node = same_Some c.taken.result ready.node (c.taken.ensures.node ∙ there) in
    let to = c.loop-i.to.items in
    let renamed : c.renumbered-node.result ≡ with_inputs (new_number to) ready.node =
    c.renumbered-node.ensures ∙ (ap (λ (ts : List ℕ). with_inputs (new_number ts) c.taken.result) c.as_slice.ensures.value ∙ ap (λ (x : Node). with_inputs (new_number to) x) is) in
    let more : take (k + 1) numbers ≡ take k numbers ++ i ∷ [] = take_more numbers k 0 c.loop-i-test.true in
    let stands : Stands c.loop-i.nodes c.add.new.self c.in_ok-n.n (with_inputs (new_number to) ready.node) = subst (Stands c.loop-i.nodes c.add.new.self c.in_ok-n.n) renamed c.in_ok-n.ensures.stands in
    let put : c.add.new.self ≡ c.loop-i.nodes ++ with_inputs (new_number to) ready.node ∷ [] = c.in_ok-n.ensures.ok.1 ∙ ap (λ (x : Node). c.loop-i.nodes ++ x ∷ []) renamed in
    record {
      arranged = subst (λ (order : List ℕ). IsArranged order c.args.old c.add.new.self (set to i c.in_ok-n.n)) (sym more)
          (arranged-push (take k numbers) c.args.old c.loop-i.nodes c.loop-i.to.items c.loop-i.invariant.arranged c.into_vec-rest.ensures.plan i ready c.add.new.self c.in_ok-n.n stands
          c.in_ok-n.ensures.ok.0 put);
      left = subst (λ (order : List ℕ). AreLeft order c.args.old c.taken.new.nodes.items) (sym more)
          (left-more (take k numbers) c.args.old c.loop-i.rest.items c.taken.new.nodes.items i c.loop-i.invariant.left c.taken.ensures.others);
    }
