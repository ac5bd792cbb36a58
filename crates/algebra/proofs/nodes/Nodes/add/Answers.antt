use Rattle.std.proofs.Common.{rules, ◌≡◌, ◌∙◌, ◌<◌, ◌++◌, ◌∷◌, [], List, length, ap, sym, subst, arith}
use Rattle.std.specs.Vec.{vec_len}
use Rattle.std.proofs.lemmas.List.{length-append}
use Rattle.algebra.specs.declared.node.Node.{Node}
use Rattle.algebra.specs.declared.shape.Shape.{Shape}
use Rattle.algebra.specs.Folds.{had}
use Rattle.algebra.specs.Nodes.{IsNode}
use Rattle.algebra.specs.Shapes.{shape_by, no_shape, shapes_of}
use Rattle.algebra.proofs.Placing.{shapes_more, plan_more, stands_more}
use Rattle.algebra.proofs.nodes.Nodes.add.Goals as goal

pub invariant_of-self-2 : goal.invariant_of-self-2
invariant_of-self-2 c =
    let old = c.self.inside.nodes.items in
    let is : c.push_both.new.nodes.items ≡ old ++ c.args.node ∷ [] = c.in_ok-push_both.ensures.nodes in
    let shape_is : c.in_ok-shape.shape ≡ had no_shape shape_by c.self.inside.shapes.items c.args.node =
    c.in_ok-shape.ensures ∙ ap (λ (all : List Shape). had no_shape shape_by all c.args.node) c.as_slice.ensures.value in
    let valid : IsNode (shapes_of old) c.args.node = subst (λ (nodes : List Node). IsNode (shapes_of nodes) c.args.node) (sym c.self.view_is) c.requires.valid in
    let fits : vec_len c.push_both.new.nodes < 4294967296 =
    omega (arith, ap length is, length-append old (c.args.node ∷ []), c.len.ensures, c.if-len.false, c.self.inside.nodes.ok.0, c.push_both.new.nodes.ok.0) in (
      fits,
      shapes_more old c.push_both.new.nodes.items c.self.inside.shapes.items c.push_both.new.shapes.items c.args.node c.in_ok-shape.shape c.self.invariant.1 is c.in_ok-push_both.ensures.shapes shape_is,
      plan_more old c.push_both.new.nodes.items c.args.node c.self.invariant.2 valid is,
    )

pub returns-clause-stands : goal.returns-clause-stands
returns-clause-stands c =
    let is : c.push_both.new.nodes.items ≡ c.args.self.now ++ c.args.node ∷ [] =
    c.in_ok-push_both.ensures.nodes ∙ ap (λ (nodes : List Node). nodes ++ c.args.node ∷ []) c.self.view_is in
    let last : c.len-n.result ≡ length c.args.self.now = search rules in
    stands_more c.args.self.now c.push_both.new.nodes.items c.len-n.result c.args.node last is
