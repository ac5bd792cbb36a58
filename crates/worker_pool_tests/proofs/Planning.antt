-- A plan that shows one node of one column.
use Rattle.std.proofs.Common.{◌≡◌, zero, suc, sym, ap, subst, ◌∙◌, All, ℕ, ◌<◌, List, [], ◌∷◌, length, refl, arith, true}
use Rattle.std.specs.Prelude.{slice_index_or}
use Rattle.algebra.specs.declared.node.Node.{Node}
use Rattle.algebra.specs.declared.output.PlanOut.{PlanOut}
use Rattle.algebra.specs.FoldLaws.{length-each}
use Rattle.algebra.specs.Plans.{IsOutput, AreOutputs}
use Rattle.algebra.specs.Shapes.{shape_by, shapes_of, no_shape, columns, IsOpen}

module _ (nodes : List Node) (out : PlanOut) (there : out.node < length nodes) (shape : slice_index_or (shapes_of nodes) out.node no_shape ≡ columns 1) (one : length out.names.columns ≡ 1) where
  one_output : IsOutput (shapes_of nodes) out
  one_output = record {
    there = omega (arith, there, length-each no_shape shape_by nodes);
    shown = subst IsOpen (sym shape) tt;
    columns = one ∙ sym (ap (λ s. s.width) shape);
  }

  each_output : All (IsOutput (shapes_of nodes)) (out ∷ [])
  each_output zero d below = one_output
  each_output (suc i) d below = absurd (omega (arith, below))

  -- a plan may show one node of one column
  pub outputs_valid : (kept : List Node) (outs : List PlanOut) → kept ≡ nodes → outs ≡ out ∷ [] → AreOutputs kept outs
  outputs_valid kept outs same are = rw (same, are) (record { each = each_output; distinct = λ i j d first below. absurd (omega (arith, first, below)) })
