use Rattle.std.proofs.Common.{◌≡◌, ◌∙◌, List, get_or, ap}
use Rattle.std.proofs.lemmas.List.{get_or_default}
use Rattle.algebra.specs.declared.shape.Shape.{Shape}
use Rattle.algebra.specs.Shapes.{shapes_of, no_shape}
use Rattle.algebra.proofs.Placing.{shape_there}
use Rattle.algebra.proofs.nodes.Nodes.shape.Goals as goal

pub returns : goal.returns
returns c =
    let are : c.as_slice.result.now ≡ shapes_of c.args.self.now = c.as_slice.ensures.value ∙ (c.self.invariant.1 ∙ ap shapes_of c.self.view_is) in
    get_or_default c.as_slice.result.now c.args.n _ no_shape (shape_there c.args.self.now c.as_slice.result.now c.args.n are c.requires.in_range)
    ∙ ap (λ (all : List Shape). get_or all c.args.n no_shape) are
