-- Outputs of plans of whose nodes some are kept, those of the outputs among them: each is shown by the node that stands for
-- its own.
use Rattle.std.proofs.Common.{◌≡◌, ◌∙◌, ℕ, ◌<◌, List, [], ◌∷◌, length, map, get_or, refl, sym, ap, subst, arith}
use Rattle.std.specs.List.{All, AllZip}
use Rattle.std.proofs.lemmas.List.Elements.{All-map, All-weaker, All-head, All-tail}
use Rattle.row_values.specs.Outputs.{HasDistinctNames}
use Rattle.algebra.specs.declared.node.Node.{Node}
use Rattle.algebra.specs.declared.output.PlanOut.{PlanOut}
use Rattle.algebra.specs.declared.shape.Shape.{Shape}
use Rattle.algebra.specs.FoldLaws.{length-each}
use Rattle.algebra.specs.Mapping.{IsMapped, renumbered}
use Rattle.algebra.specs.Plans.{Parts, IsOutput, AreOutputs, KeepsOutput, KeepsOutputs}
use Rattle.algebra.specs.Shapes.{shape_by, no_shape, shapes_of, IsOpen}

module _ (Kept : ℕ → Type 0) (old new : List Node) (to : List ℕ) (mapped : IsMapped Kept old new to) where
  there_in : (out : PlanOut) → IsOutput (shapes_of old) out → out.node < length to
  there_in out is = omega (arith, is.there, length-each no_shape shape_by old, mapped.long)

  -- each output names a number that has a new one
  pub outputs_there : (outs : List PlanOut) → AreOutputs old outs → All (λ out. out.node < length to) outs
  outputs_there outs are = All-weaker (IsOutput (shapes_of old)) (λ out. out.node < length to) there_in outs are.each

  output_kept : (out : PlanOut) → IsOutput (shapes_of old) out → Kept out.node → IsOutput (shapes_of new) (renumbered to out)
  output_kept out is kept = record {
    there = omega (arith, mapped.there out.node (there_in out is) kept, length-each no_shape shape_by new);
    shown = subst (λ (shape : Shape). IsOpen shape) (sym (mapped.shaped out.node (there_in out is) kept)) is.shown;
    columns = is.columns ∙ ap (λ (shape : Shape). shape.width) (sym (mapped.shaped out.node (there_in out is) kept));
  }

  names_kept : (outs : List PlanOut) → map (λ out. out.names.name) (map (renumbered to) outs) ≡ map (λ out. out.names.name) outs
  names_kept [] = refl
  names_kept (out ∷ outs) = ap (λ (names : List (List ℕ)). out.names.name ∷ names) (names_kept outs)

  -- the outputs are outputs of the new nodes
  pub outputs_kept : (outs : List PlanOut) → AreOutputs old outs → All (λ out. Kept out.node) outs → AreOutputs new (map (renumbered to) outs)
  outputs_kept outs are kept = record {
    each = All-map (IsOutput (shapes_of new)) (renumbered to) outs (λ k d below. output_kept (get_or outs k d) (are.each k d below) (kept k d below));
    distinct = subst HasDistinctNames (sym (names_kept outs)) are.distinct;
  }

  module _ (before after : Parts) (nodes_before : before.nodes ≡ old) (nodes_after : after.nodes ≡ new) (lists_are : after.lists ≡ before.lists) where
    one_kept : (out : PlanOut) → IsOutput (shapes_of old) out → Kept out.node → KeepsOutput before after out (renumbered to out)
    one_kept out is kept = record {
      names = refl;
      rows = λ doc. rw (nodes_before, nodes_after, lists_are) (mapped.same before.lists doc out.node (there_in out is) kept);
    }

    all_kept : (outs : List PlanOut) → All (IsOutput (shapes_of old)) outs → All (λ out. Kept out.node) outs → AllZip (KeepsOutput before after) outs (map (renumbered to) outs)
    all_kept [] all kept = tt
    all_kept (out ∷ outs) all kept = (
      one_kept out (All-head (IsOutput (shapes_of old)) out outs all) (All-head (λ out. Kept out.node) out outs kept),
      all_kept outs (All-tail (IsOutput (shapes_of old)) out outs all) (All-tail (λ out. Kept out.node) out outs kept),
    )

    -- and show what they showed
    pub outputs_show : AreOutputs old before.outputs → All (λ out. Kept out.node) before.outputs → after.outputs ≡ map (renumbered to) before.outputs → KeepsOutputs before after
    outputs_show are kept is = record {
      lists = lists_are;
      outputs = subst (AllZip (KeepsOutput before after) before.outputs) (sym is) (all_kept before.outputs are.each kept);
    }
