use Rattle.std.proofs.Common.{rules, ◌+◌, List, length, drop, sym, subst, Global}
use Rattle.std.proofs.lemmas.Iterator.Adapters.{YieldsList-from_vec}
use Rattle.std.proofs.lemmas.Iterator.Consumers.{YieldsList-turn, YieldsList-so_far}
use Rattle.algebra.specs.declared.node.Node.{Node}
use Rattle.algebra.specs.Nodes.{IsNode, IsPlan}
use Rattle.algebra.specs.NodeLaws.{plan-at}
use Rattle.algebra.specs.Shapes.{shapes_of}
use Rattle.share_plan.proofs.Rebuilding.{taken}
use Rattle.share_plan.proofs.sharing.planned.Goals as goal

pub add-requires : goal.add-requires
add-requires c =
    let items = c.args.nodes.items in
    let list = YieldsList-from_vec {Z = Global} items (search rules) (search rules) in
    let turn = YieldsList-turn list c.loop-node.yielded c.loop-node.node-iterator c.loop-node.yielded_by c.next.result c.next.new.self c.in-Some.node c.in-Some.is c.next.ensures.steps in
    let so_far = YieldsList-so_far list c.loop-node.yielded c.loop-node.node-iterator c.loop-node.yielded_by in
    let rest = drop (length c.loop-node.yielded + 1) items in
    let whole = taken items c.loop-node.yielded c.in-Some.node so_far turn.0 turn.1 in
    let valid : IsNode (shapes_of c.loop-node.yielded) c.in-Some.node = plan-at c.loop-node.yielded c.in-Some.node rest (subst IsPlan whole c.requires) in
    record { valid = subst (λ (nodes : List Node). IsNode (shapes_of nodes) c.in-Some.node) (sym c.loop-node.invariant) valid }
