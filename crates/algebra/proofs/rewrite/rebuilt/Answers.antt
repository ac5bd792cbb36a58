use Rattle.std.proofs.Common.{rules, ◌≡◌, ◌∙◌, ℕ, List, [], ◌∷◌, ◌++◌, length, ap, sym, subst, Global}
use Rattle.std.proofs.lemmas.Iterator.Adapters.{YieldsList-from_vec}
use Rattle.std.proofs.lemmas.Iterator.Consumers.{YieldsList-turn, YieldsList-so_far}
use Rattle.algebra.specs.declared.node.Node.{Node}
use Rattle.algebra.specs.Growth.{Stands}
use Rattle.algebra.specs.Inputs.{left_input, right_input, with_inputs, IsAmong}
use Rattle.algebra.specs.Mapping.{every, new_number, IsMapped}
use Rattle.algebra.specs.Nodes.{IsNode, IsPlan}
use Rattle.algebra.specs.Shapes.{shapes_of}
use Rattle.algebra.proofs.Rebuilding.{next_valid, left_there, right_there, renamed_valid, one_more}
use Rattle.algebra.proofs.rewrite.rebuilt.Goals as goal

pub with_inputs-node-requires-clause-left : goal.with_inputs-node-requires-clause-left
with_inputs-node-requires-clause-left g c =
    let items = c.into_vec-node-items.result.items in
    let list = YieldsList-from_vec {Z = Global} items (search rules) (search rules) in
    let turn = YieldsList-turn list c.loop-node.yielded c.loop-node.node-iterator c.loop-node.yielded_by c.next.result c.next.new.self c.in-Some.node c.in-Some.is c.next.ensures.steps in
    let so_far = YieldsList-so_far list c.loop-node.yielded c.loop-node.node-iterator c.loop-node.yielded_by in
    let plan : IsPlan items = subst IsPlan (sym c.into_vec-node-items.ensures.nodes) c.into_vec-node-items.ensures.plan in
    let valid = next_valid items c.loop-node.yielded c.in-Some.node plan so_far turn.0 turn.1 in
    subst (λ (to : List ℕ). IsAmong (length to) (left_input c.in-Some.node)) (sym c.as_slice.ensures.value) (left_there _ _ _ _ c.loop-node.invariant c.in-Some.node valid)

pub with_inputs-node-requires-clause-right : goal.with_inputs-node-requires-clause-right
with_inputs-node-requires-clause-right g c =
    let items = c.into_vec-node-items.result.items in
    let list = YieldsList-from_vec {Z = Global} items (search rules) (search rules) in
    let turn = YieldsList-turn list c.loop-node.yielded c.loop-node.node-iterator c.loop-node.yielded_by c.next.result c.next.new.self c.in-Some.node c.in-Some.is c.next.ensures.steps in
    let so_far = YieldsList-so_far list c.loop-node.yielded c.loop-node.node-iterator c.loop-node.yielded_by in
    let plan : IsPlan items = subst IsPlan (sym c.into_vec-node-items.ensures.nodes) c.into_vec-node-items.ensures.plan in
    let valid = next_valid items c.loop-node.yielded c.in-Some.node plan so_far turn.0 turn.1 in
    subst (λ (to : List ℕ). IsAmong (length to) (right_input c.in-Some.node)) (sym c.as_slice.ensures.value) (right_there _ _ _ _ c.loop-node.invariant c.in-Some.node valid)

pub put-requires-clause-valid : goal.put-requires-clause-valid
put-requires-clause-valid g c =
    let items = c.into_vec-node-items.result.items in
    let list = YieldsList-from_vec {Z = Global} items (search rules) (search rules) in
    let turn = YieldsList-turn list c.loop-node.yielded c.loop-node.node-iterator c.loop-node.yielded_by c.next.result c.next.new.self c.in-Some.node c.in-Some.is c.next.ensures.steps in
    let so_far = YieldsList-so_far list c.loop-node.yielded c.loop-node.node-iterator c.loop-node.yielded_by in
    let plan : IsPlan items = subst IsPlan (sym c.into_vec-node-items.ensures.nodes) c.into_vec-node-items.ensures.plan in
    let valid = next_valid items c.loop-node.yielded c.in-Some.node plan so_far turn.0 turn.1 in
    let is : c.with_inputs-node.result ≡ with_inputs (new_number c.loop-node.to.items) c.in-Some.node =
    c.with_inputs-node.ensures ∙ ap (λ (to : List ℕ). with_inputs (new_number to) c.in-Some.node) c.as_slice.ensures.value in
    subst (λ (node : Node). IsNode (shapes_of c.loop-node.nodes) node) (sym is) (renamed_valid _ _ _ _ c.loop-node.invariant c.in-Some.node valid)

pub loop-node-preserved : goal.loop-node-preserved
loop-node-preserved g c =
    let items = c.into_vec-node-items.result.items in
    let list = YieldsList-from_vec {Z = Global} items (search rules) (search rules) in
    let turn = YieldsList-turn list c.loop-node.yielded c.loop-node.node-iterator c.loop-node.yielded_by c.next.result c.next.new.self c.in-Some.node c.in-Some.is c.next.ensures.steps in
    let so_far = YieldsList-so_far list c.loop-node.yielded c.loop-node.node-iterator c.loop-node.yielded_by in
    let plan : IsPlan items = subst IsPlan (sym c.into_vec-node-items.ensures.nodes) c.into_vec-node-items.ensures.plan in
    let valid = next_valid items c.loop-node.yielded c.in-Some.node plan so_far turn.0 turn.1 in
    let is : c.with_inputs-node.result ≡ with_inputs (new_number c.loop-node.to.items) c.in-Some.node =
    c.with_inputs-node.ensures ∙ ap (λ (to : List ℕ). with_inputs (new_number to) c.in-Some.node) c.as_slice.ensures.value in
    let stands : Stands c.loop-node.nodes c.put.new.nodes c.in_ok-n.n (with_inputs (new_number c.loop-node.to.items) c.in-Some.node) =
    subst (λ (node : Node). Stands c.loop-node.nodes c.put.new.nodes c.in_ok-n.n node) is c.in_ok-n.ensures.stands in
    record {
      mapped = subst (λ (to : List ℕ). IsMapped every (c.loop-node.yielded ++ c.in-Some.node ∷ []) c.put.new.nodes to) (sym c.in_ok-push.ensures.items)
          (one_more _ _ _ _ c.loop-node.invariant c.in-Some.node valid c.put.new.nodes c.in_ok-n.n stands);
      knows = c.in_ok-n.ensures.knows;
    }
