-- Nodes where they stand in a plan, with their shapes.
use Rattle.std.proofs.Common.{◌≡◌, ℕ, ◌<◌, List, [], ◌∷◌, ◌++◌, length, sym, ap, ap₂, subst, ◌∙◌, arith}
use Rattle.std.specs.Prelude.{slice_index_or}
use Rattle.algebra.specs.declared.node.Node.{Node}
use Rattle.algebra.specs.declared.shape.Shape.{Shape}
use Rattle.algebra.specs.FoldLaws.{length-each, all-push}
use Rattle.algebra.specs.Folds.{had}
use Rattle.algebra.specs.Growth.{Stands, IsAt}
use Rattle.algebra.specs.GrowthLaws.{is-at, stands-added}
use Rattle.algebra.specs.NodeLaws.{plan-push}
use Rattle.algebra.specs.Nodes.{IsNode, IsPlan}
use Rattle.algebra.specs.Shapes.{shape_by, no_shape, shapes_of}

pub node_at : (nodes : List Node) (i : ℕ) (node : Node) → IsPlan nodes → i < length nodes → node ≡ slice_index_or nodes i node → IsAt nodes i node
node_at nodes i node plan below is = is-at nodes i node plan below is

pub shape_there : (nodes : List Node) (shapes : List Shape) (n : ℕ) → shapes ≡ shapes_of nodes → n < length nodes → n < length shapes
shape_there nodes shapes n are below = omega (arith, below, ap length are, length-each no_shape shape_by nodes)

pub shapes_more : (old new : List Node) (shapes later : List Shape) (node : Node) (shape : Shape) → shapes ≡ shapes_of old → new ≡ old ++ node ∷ [] → later ≡ shapes ++ shape ∷ []
    → shape ≡ had no_shape shape_by shapes node → later ≡ shapes_of new
shapes_more old new shapes later node shape are is put had_is =
    put ∙ (ap₂ (λ (all : List Shape) (s : Shape). all ++ s ∷ []) are (had_is ∙ ap (λ (all : List Shape). had no_shape shape_by all node) are)
    ∙ (sym (all-push no_shape shape_by old node) ∙ ap shapes_of (sym is)))

pub plan_more : (old new : List Node) (node : Node) → IsPlan old → IsNode (shapes_of old) node → new ≡ old ++ node ∷ [] → IsPlan new
plan_more old new node plan valid is = subst IsPlan (sym is) (plan-push old node plan valid)

pub stands_more : (old new : List Node) (n : ℕ) (node : Node) → n ≡ length old → new ≡ old ++ node ∷ [] → Stands old new n node
stands_more old new n node last is = stands-added old new n node last is
