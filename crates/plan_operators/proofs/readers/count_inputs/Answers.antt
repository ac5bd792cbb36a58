use Rattle.std.proofs.Common.{◌≡◌, ℕ, Option, ap, arith}
use Rattle.algebra.specs.Inputs.{left_input, right_input}
use Rattle.plan_operators.specs.Readers.{reads_through}
use Rattle.plan_operators.proofs.Reading.{node-at, reads-above, reads-both, reads-most, through-most}
use Rattle.plan_operators.proofs.readers.count_inputs.Goals as goal

pub count-requires-2-clause-few : goal.count-requires-2-clause-few
count-requires-2-clause-few c = λ k.
    let few = c.requires.few k in
    let more = c.count.ensures.more k in
    omega (arith, few, more, through-most c.inputs-left.result.0 k)

pub returns-clause-more : goal.returns-clause-more
returns-clause-more c = λ k.
    let node = c.get-node.result.now in
    let at = node-at c.args.nodes.now c.args.n node c.requires.there c.get-node.ensures.node in
    let left : reads_through c.inputs-left.result.0 k ≡ reads_through (left_input node) k = ap (λ (o : Option ℕ). reads_through o k) c.inputs-left.ensures.left in
    let right : reads_through c.inputs-left.result.1 k ≡ reads_through (right_input node) k = ap (λ (o : Option ℕ). reads_through o k) c.inputs-left.ensures.right in
    omega (arith, c.count.ensures.more k, c.count-2.ensures.more k, left, right, reads-both c.args.nodes.now c.args.n node at k)

pub returns-clause-most : goal.returns-clause-most
returns-clause-most c = λ k. reads-most c.args.nodes.now c.args.n c.get-node.result.now (node-at c.args.nodes.now c.args.n c.get-node.result.now c.requires.there c.get-node.ensures.node) k

pub returns-clause-below : goal.returns-clause-below
returns-clause-below c = λ k above.
    reads-above c.args.nodes.now c.args.n c.get-node.result.now (node-at c.args.nodes.now c.args.n c.get-node.result.now c.requires.there c.get-node.ensures.node) k
    c.get-node.ensures.at.left_lower c.get-node.ensures.at.right_lower above
