use Rattle.std.proofs.Common.{◌≡◌, ◌∙◌, List, ap₂, sym, subst}
use Rattle.scalar_ops.specs.Expressions.{Term}
use Rattle.algebra.specs.declared.node.Node.TheVariants.{Project, Cross}
use Rattle.algebra.specs.declared.shape.Shape.{Shape}
use Rattle.algebra.specs.Growth.{Stands}
use Rattle.algebra.specs.NodeLaws.{plan-push}
use Rattle.algebra.specs.Nodes.{IsNode, IsPlan}
use Rattle.algebra.specs.Shapes.{shapes_of}
use Rattle.restrict_eval.specs.Putting.{width_at}
use Rattle.restrict_eval.specs.Turning.{HasMatches, turned_back}
use Rattle.restrict_eval.proofs.Sides.{turned_more, same_sides, turned_valid, back_valid, turned_stands, no_cross, node_below}
use Rattle.restrict_eval.proofs.turning.turned.Goals as goal

pub shape-count-requires : goal.shape-count-requires
shape-count-requires c = record { in_range = node_below c.args.nodes.now c.args.left c.requires.valid.left_below }

pub shape-width-requires : goal.shape-width-requires
shape-width-requires c = record { in_range = node_below c.args.nodes.now c.args.right c.requires.valid.right_below }

pub add-requires : goal.add-requires
add-requires c = record { valid = turned_valid c.args.nodes.now c.args.left c.args.right c.args.conditional c.as_slice-plan.ensures.plan c.requires.valid }

pub add-requires-2 : goal.add-requires-2
add-requires-2 c =
    let old = c.args.nodes.now in
    let items : c.in_ok-items.items ≡ turned_back (width_at old c.args.right) (width_at old c.args.left) =
    c.in_ok-items.ensures ∙ ap₂ (λ (s t : Shape). turned_back s.width t.width) c.shape-width.ensures c.shape-count.ensures in
    record {
      valid = subst (λ (ts : List Term). IsNode (shapes_of c.add.new.self) (Project c.in_ok-n.n ts)) (sym items)
          (back_valid old c.args.left c.args.right c.args.conditional c.as_slice-plan.ensures.plan c.requires.valid c.add.new.self c.in_ok-n.n c.in_ok-n.ensures.stands);
    }

pub returns-clause-stands : goal.returns-clause-stands
returns-clause-stands c =
    let old = c.args.nodes.now in
    let items : c.in_ok-items.items ≡ turned_back (width_at old c.args.right) (width_at old c.args.left) =
    c.in_ok-items.ensures ∙ ap₂ (λ (s t : Shape). turned_back s.width t.width) c.shape-width.ensures c.shape-count.ensures in
    turned_stands old c.args.left c.args.right c.args.conditional c.as_slice-plan.ensures.plan c.requires.valid c.add.new.self c.in_ok-n.n c.in_ok-n.ensures.stands c.add-2.new.self c.in_ok-n-2.n
    (subst (λ (ts : List Term). Stands c.add.new.self c.add-2.new.self c.in_ok-n-2.n (Project c.in_ok-n.n ts)) items c.in_ok-n-2.ensures.stands)

pub returns-clause-turned : goal.returns-clause-turned
returns-clause-turned c =
    let old = c.args.nodes.now in
    let mid = c.add.new.self in
    let valid = turned_valid old c.args.left c.args.right c.args.conditional c.as_slice-plan.ensures.plan c.requires.valid in
    let items : c.in_ok-items.items ≡ turned_back (width_at old c.args.right) (width_at old c.args.left) =
    c.in_ok-items.ensures ∙ ap₂ (λ (s t : Shape). turned_back s.width t.width) c.shape-width.ensures c.shape-count.ensures in
    let plan : IsPlan mid = subst IsPlan (sym c.in_ok-n.ensures.ok.1) (plan-push old (Cross c.args.right c.args.left c.args.conditional) c.as_slice-plan.ensures.plan valid) in
    let first = turned_more old mid (Cross c.args.right c.args.left c.args.conditional) c.as_slice-plan.ensures.plan valid c.in_ok-n.ensures.ok.1 c.requires.turned
    (λ l r b e has.
    let sides = same_sides c.args.right c.args.left l r c.args.conditional b e in
    absurd (c.requires.other (subst (HasMatches old) (sym sides.0) has))) in
    turned_more mid c.add-2.new.self (Project c.in_ok-n.n c.in_ok-items.items) plan
    (subst (λ (ts : List Term). IsNode (shapes_of mid) (Project c.in_ok-n.n ts)) (sym items)
    (back_valid old c.args.left c.args.right c.args.conditional c.as_slice-plan.ensures.plan c.requires.valid mid c.in_ok-n.n c.in_ok-n.ensures.stands))
    c.in_ok-n-2.ensures.ok.1 first
    (λ l r b e. absurd (no_cross c.in_ok-n.n l r c.in_ok-items.items b e))
