use Rattle.std.proofs.Common.{rules, ◌≡◌, ◌∙◌, ℕ, List, [], ◌∷◌, ◌++◌, length, drop, ◌+◌, ap, sym, subst, Global}
use Rattle.std.proofs.lemmas.Iterator.Adapters.{YieldsList-from_vec}
use Rattle.std.proofs.lemmas.Iterator.Consumers.{YieldsList-turn, YieldsList-so_far, YieldsList-end}
use Rattle.std.proofs.lemmas.List.{map-id}
use Rattle.algebra.specs.declared.node.Node.{Node}
use Rattle.algebra.specs.Inputs.{left_input, right_input, with_inputs, IsAmong}
use Rattle.algebra.specs.Mapping.{new_number}
use Rattle.share_plan.specs.Kinds.{kind_of}
use Rattle.share_plan.specs.Putting.{MayPut, IsPut}
use Rattle.share_plan.proofs.Indexing.{index-distinct, index-merged}
use Rattle.share_plan.proofs.Moving.{open-renumbered}
use Rattle.share_plan.proofs.Rebuilding.{IsShared, taken, left_there, right_there, may_be_put, one_more}
use Rattle.share_plan.proofs.sharing.shared_nodes.Goals as goal

pub renumbered-node-requires-clause-left : goal.renumbered-node-requires-clause-left
renumbered-node-requires-clause-left c =
    let items = c.into_vec-node-items.result.items in
    let list = YieldsList-from_vec {Z = Global} items (search rules) (search rules) in
    let turn = YieldsList-turn list c.loop-node.yielded c.loop-node.node-iterator c.loop-node.yielded_by c.next.result c.next.new.self c.in-Some.node c.in-Some.is c.next.ensures.steps in
    let so_far = YieldsList-so_far list c.loop-node.yielded c.loop-node.node-iterator c.loop-node.yielded_by in
    let rest = drop (length c.loop-node.yielded + 1) items in
    let whole : c.args.old ≡ c.loop-node.yielded ++ c.in-Some.node ∷ rest = sym c.into_vec-node-items.ensures.nodes ∙ taken items c.loop-node.yielded c.in-Some.node so_far turn.0 turn.1 in
    subst (λ (to : List ℕ). IsAmong (length to) (left_input c.in-Some.node)) (sym c.as_slice.ensures.value)
    (left_there _ _ _ _ _ _ c.loop-node.invariant c.in-Some.node rest whole c.into_vec-node-items.ensures.plan)

pub renumbered-node-requires-clause-right : goal.renumbered-node-requires-clause-right
renumbered-node-requires-clause-right c =
    let items = c.into_vec-node-items.result.items in
    let list = YieldsList-from_vec {Z = Global} items (search rules) (search rules) in
    let turn = YieldsList-turn list c.loop-node.yielded c.loop-node.node-iterator c.loop-node.yielded_by c.next.result c.next.new.self c.in-Some.node c.in-Some.is c.next.ensures.steps in
    let so_far = YieldsList-so_far list c.loop-node.yielded c.loop-node.node-iterator c.loop-node.yielded_by in
    let rest = drop (length c.loop-node.yielded + 1) items in
    let whole : c.args.old ≡ c.loop-node.yielded ++ c.in-Some.node ∷ rest = sym c.into_vec-node-items.ensures.nodes ∙ taken items c.loop-node.yielded c.in-Some.node so_far turn.0 turn.1 in
    subst (λ (to : List ℕ). IsAmong (length to) (right_input c.in-Some.node)) (sym c.as_slice.ensures.value)
    (right_there _ _ _ _ _ _ c.loop-node.invariant c.in-Some.node rest whole c.into_vec-node-items.ensures.plan)

pub put-requires-clause-may : goal.put-requires-clause-may
put-requires-clause-may c =
    let items = c.into_vec-node-items.result.items in
    let list = YieldsList-from_vec {Z = Global} items (search rules) (search rules) in
    let turn = YieldsList-turn list c.loop-node.yielded c.loop-node.node-iterator c.loop-node.yielded_by c.next.result c.next.new.self c.in-Some.node c.in-Some.is c.next.ensures.steps in
    let so_far = YieldsList-so_far list c.loop-node.yielded c.loop-node.node-iterator c.loop-node.yielded_by in
    let rest = drop (length c.loop-node.yielded + 1) items in
    let whole : c.args.old ≡ c.loop-node.yielded ++ c.in-Some.node ∷ rest = sym c.into_vec-node-items.ensures.nodes ∙ taken items c.loop-node.yielded c.in-Some.node so_far turn.0 turn.1 in
    let is : c.renumbered-node.result ≡ with_inputs (new_number c.loop-node.to.items) c.in-Some.node =
    c.renumbered-node.ensures ∙ ap (λ (to : List ℕ). with_inputs (new_number to) c.in-Some.node) c.as_slice.ensures.value in
    subst (λ (node : Node). MayPut c.loop-node.shared.sources.items c.loop-node.shared.nodes.items (kind_of node) node) (sym is)
    (may_be_put _ _ _ _ _ _ c.loop-node.invariant c.in-Some.node rest whole c.into_vec-node-items.ensures.plan)

pub loop-node-preserved : goal.loop-node-preserved
loop-node-preserved c =
    let items = c.into_vec-node-items.result.items in
    let list = YieldsList-from_vec {Z = Global} items (search rules) (search rules) in
    let turn = YieldsList-turn list c.loop-node.yielded c.loop-node.node-iterator c.loop-node.yielded_by c.next.result c.next.new.self c.in-Some.node c.in-Some.is c.next.ensures.steps in
    let so_far = YieldsList-so_far list c.loop-node.yielded c.loop-node.node-iterator c.loop-node.yielded_by in
    let rest = drop (length c.loop-node.yielded + 1) items in
    let whole : c.args.old ≡ c.loop-node.yielded ++ c.in-Some.node ∷ rest = sym c.into_vec-node-items.ensures.nodes ∙ taken items c.loop-node.yielded c.in-Some.node so_far turn.0 turn.1 in
    let is : c.renumbered-node.result ≡ with_inputs (new_number c.loop-node.to.items) c.in-Some.node =
    c.renumbered-node.ensures ∙ ap (λ (to : List ℕ). with_inputs (new_number to) c.in-Some.node) c.as_slice.ensures.value in
    let put : IsPut c.loop-node.shared.sources.items c.loop-node.shared.nodes.items c.put.new.self.sources.items c.put.new.self.nodes.items c.in_ok-n.n
    (kind_of (with_inputs (new_number c.loop-node.to.items) c.in-Some.node)) (with_inputs (new_number c.loop-node.to.items) c.in-Some.node) =
    subst (λ (node : Node). IsPut c.loop-node.shared.sources.items c.loop-node.shared.nodes.items c.put.new.self.sources.items c.put.new.self.nodes.items c.in_ok-n.n (kind_of node) node) is c.in_ok-n.ensures.put in
    subst (λ (to : List ℕ). IsShared c.args.old (c.loop-node.yielded ++ c.in-Some.node ∷ []) c.put.new.self.nodes.items c.put.new.self.sources.items to c.put.new.self.index.keys) (sym c.in_ok-push.ensures.items)
    (one_more _ _ _ _ _ _ c.loop-node.invariant c.in-Some.node rest whole c.into_vec-node-items.ensures.plan c.put.new.self.sources.items c.put.new.self.nodes.items c.in_ok-n.n c.put.new.self.index.keys c.in_ok-n.ensures.index put)

pub returns-clause-distinct : goal.returns-clause-distinct
returns-clause-distinct c = index-distinct _ _ c.loop-node.invariant.index

pub returns-clause-merged : goal.returns-clause-merged
returns-clause-merged c = index-merged _ _ c.loop-node.invariant.index

pub returns-clause-renumbered : goal.returns-clause-renumbered
returns-clause-renumbered c =
    let items = c.into_vec-node-items.result.items in
    let list = YieldsList-from_vec {Z = Global} items (search rules) (search rules) in
    let end =
    YieldsList-end list c.loop-node.yielded c.loop-node.node-iterator c.loop-node.yielded_by c.next.result c.next.new.self c.in-None.is c.next.ensures.steps in
    let whole : c.loop-node.yielded ≡ c.args.old = sym (map-id c.loop-node.yielded) ∙ (end.0 ∙ c.into_vec-node-items.ensures.nodes) in
    let shared : IsShared c.args.old c.args.old c.loop-node.shared.nodes.items c.loop-node.shared.sources.items c.loop-node.to.items c.loop-node.shared.index.keys =
    subst (λ (yielded : List Node). IsShared c.args.old yielded c.loop-node.shared.nodes.items c.loop-node.shared.sources.items c.loop-node.to.items c.loop-node.shared.index.keys) whole c.loop-node.invariant in
    open-renumbered _ _ _ c.into_vec-node-items.ensures.plan shared.mapped shared.moved shared.from
