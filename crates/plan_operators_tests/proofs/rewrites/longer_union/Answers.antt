use Rattle.std.proofs.Common.{ℕ, List, None, sym, subst}
use Rattle.algebra.specs.declared.node.Node.TheVariants.{OrderLimit}
use Rattle.algebra.specs.Growth.{Stands}
use Rattle.algebra.specs.Nodes.{IsNode}
use Rattle.algebra.specs.Shapes.{shapes_of}
use Rattle.plan_operators_tests.proofs.LongerUnions.{may_stand, stands_for}
use Rattle.plan_operators_tests.proofs.rewrites.longer_union.Goals as goal

pub add-requires-2 : goal.add-requires-2
add-requires-2 c =
    let mid = c.add.new.self in
    let i = c.in_ok-inside.inside in
    record {
      valid = subst (λ (keys : List ℕ). IsNode (shapes_of mid) (OrderLimit i keys None)) (sym c.new-keys.ensures)
          (may_stand c.args.nodes.now mid c.args.left c.args.right i c.in_ok-inside.ensures.stands);
    }

pub returns : goal.returns
returns c =
    let old = c.args.nodes.now in
    let mid = c.add.new.self in
    let new = c.add-2.new.self in
    let i = c.in_ok-inside.inside in
    record {
      stands = stands_for old mid c.args.left c.args.right i c.in_ok-inside.ensures.stands new c.in_ok-n.n
          (subst (λ (keys : List ℕ). Stands mid new c.in_ok-n.n (OrderLimit i keys None)) c.new-keys.ensures c.in_ok-n.ensures.stands);
    }
