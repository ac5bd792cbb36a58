use Rattle.std.proofs.Common.{◌≡◌, ◌∙◌, ◌+◌, List, ap, sym, subst}
use Rattle.std.specs.List.{All}
use Rattle.scalar_ops.specs.Expressions.{Term, ReadsBelow}
use Rattle.algebra.specs.declared.shape.Shape.{Shape}
use Rattle.algebra.specs.Folds.{had}
use Rattle.algebra.specs.GrowthLaws.{has-shape}
use Rattle.algebra.specs.KindLaws.{node-project}
use Rattle.algebra.specs.Shapes.{shape_by, no_shape, shapes_of}
use Rattle.algebra.specs.Shapes as shape
use Rattle.restrict_eval.specs.Putting.{beside, width_at}
use Rattle.restrict_eval.proofs.Nearing.{beside_read}
use Rattle.restrict_eval.proofs.rebuilding.put_shown.Goals as goal

pub add-requires-2 : goal.add-requires-2
add-requires-2 c =
    let nodes = c.args.nodes.now in
    let mid = c.add.new.self in
    let width = width_at nodes c.args.outer in
    let items_are : c.in_ok-items.items ≡ beside width c.args.columns.now = c.in_ok-items.ensures ∙ ap (λ (s : Shape). beside s.width c.args.columns.now) c.shape-width.ensures in
    let has = has-shape mid c.in_ok-n.n (had no_shape shape_by (shapes_of nodes) c.args.join) (shape.columns (width + 2)) _ c.requires.joins c.in_ok-n.ensures.stands.has in
    record {
      valid = node-project mid c.in_ok-n.n (shape.columns (width + 2)) _ has c.in_ok-items.items tt
          (subst (λ (items : List Term). All (ReadsBelow (width + 2)) items) (sym items_are) (beside_read width c.args.columns.now c.requires.columns));
    }
