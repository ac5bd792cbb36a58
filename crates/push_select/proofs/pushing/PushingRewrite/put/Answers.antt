use Rattle.std.proofs.Common.{false, refl, sym, subst}
use Rattle.algebra.specs.declared.node.Node.{Node}
use Rattle.algebra.specs.declared.node.Node.TheVariants.{Cross, SpanJoin}
use Rattle.algebra.specs.Growth.{Stands}
use Rattle.algebra.specs.Nodes.{IsNode}
use Rattle.algebra.specs.Shapes.{shapes_of}
use Rattle.push_select.proofs.Searching.{cross-valid, cross-stands, join-valid, join-stands}
use Rattle.push_select.proofs.Standing.{pushed-add, other-stands, other-asks}
use Rattle.push_select.proofs.pushing.PushingRewrite.put.Goals as goal

pub selected-requires-clause-valid : goal.selected-requires-clause-valid
selected-requires-clause-valid c = subst (λ (node : Node). IsNode (shapes_of c.args.nodes.now) node) c.in-Select.is c.requires.valid

pub returns-in_ok-n-in-Select-clause-stands : goal.returns-in_ok-n-in-Select-clause-stands
returns-in_ok-n-in-Select-clause-stands c =
    subst (λ (node : Node). Stands c.args.nodes.now c.selected.new.nodes c.in_ok-n-in-Select.n node) (sym c.in-Select.is) c.in_ok-n-in-Select.ensures.stands

pub projected-requires-clause-valid : goal.projected-requires-clause-valid
projected-requires-clause-valid c = subst (λ (node : Node). IsNode (shapes_of c.args.nodes.now) node) c.in-Project.is c.requires.valid

pub returns-in_ok-n-in-Project-clause-stands : goal.returns-in_ok-n-in-Project-clause-stands
returns-in_ok-n-in-Project-clause-stands c =
    subst (λ (node : Node). Stands c.args.nodes.now c.projected.new.nodes c.in_ok-n-in-Project.n node) (sym c.in-Project.is) c.in_ok-n-in-Project.ensures.stands

pub returns-in_ok-n-in-Cross-clause-stands : goal.returns-in_ok-n-in-Cross-clause-stands
returns-in_ok-n-in-Cross-clause-stands c =
    subst (λ (node : Node). Stands c.args.nodes.now c.add.new.self c.in_ok-n-in-Cross.n node) (sym c.in-Cross.is)
    (cross-stands c.args.nodes.now c.in-Cross.left c.in-Cross.right c.in-Cross.conditional c.add.new.self c.in_ok-n-in-Cross.n c.in_ok-n-in-Cross.ensures.stands)

pub returns-in_ok-n-in-Cross-clause-knows : goal.returns-in_ok-n-in-Cross-clause-knows
returns-in_ok-n-in-Cross-clause-knows c =
    pushed-add c.args.nodes.now c.add.new.self (Cross c.in-Cross.left c.in-Cross.right false) c.in_ok-n-in-Cross.ensures.ok.1
    (cross-valid c.args.nodes.now c.in-Cross.left c.in-Cross.right c.in-Cross.conditional (subst (λ (node : Node). IsNode (shapes_of c.args.nodes.now) node) c.in-Cross.is c.requires.valid))
    c.requires.knows tt refl

pub returns-in_ok-n-in-SpanJoin-clause-stands : goal.returns-in_ok-n-in-SpanJoin-clause-stands
returns-in_ok-n-in-SpanJoin-clause-stands c =
    subst (λ (node : Node). Stands c.args.nodes.now c.add-in-SpanJoin.new.self c.in_ok-n-in-SpanJoin.n node) (sym c.in-SpanJoin.is)
    (join-stands c.args.nodes.now c.in-SpanJoin.left c.in-SpanJoin.right c.in-SpanJoin.conditional c.in-SpanJoin.kind c.in-SpanJoin.lc c.in-SpanJoin.rc c.add-in-SpanJoin.new.self c.in_ok-n-in-SpanJoin.n c.in_ok-n-in-SpanJoin.ensures.stands)

pub returns-in_ok-n-in-SpanJoin-clause-knows : goal.returns-in_ok-n-in-SpanJoin-clause-knows
returns-in_ok-n-in-SpanJoin-clause-knows c =
    pushed-add c.args.nodes.now c.add-in-SpanJoin.new.self (SpanJoin c.in-SpanJoin.left c.in-SpanJoin.right c.in-SpanJoin.kind c.in-SpanJoin.lc c.in-SpanJoin.rc false) c.in_ok-n-in-SpanJoin.ensures.ok.1
    (join-valid c.args.nodes.now c.in-SpanJoin.left c.in-SpanJoin.right c.in-SpanJoin.conditional c.in-SpanJoin.kind c.in-SpanJoin.lc c.in-SpanJoin.rc (subst (λ (node : Node). IsNode (shapes_of c.args.nodes.now) node) c.in-SpanJoin.is c.requires.valid))
    c.requires.knows tt refl

pub returns-in_ok-n-in_default-clause-knows : goal.returns-in_ok-n-in_default-clause-knows
returns-in_ok-n-in_default-clause-knows c =
    pushed-add c.args.nodes.now c.add-in_default.new.self c.args.node c.in_ok-n-in_default.ensures.ok.1 c.requires.valid c.requires.knows (other-stands c.args.nodes.now c.args.node c.in_default.not-Select c.in_default.not-Project)
    (other-asks c.args.node c.in_default.not-Cross c.in_default.not-SpanJoin c.in_default.not-Restricted)
