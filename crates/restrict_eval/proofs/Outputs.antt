-- The nodes that outputs show, in the old plan and in the new one.
use Rattle.std.proofs.Common.{◌≡◌, ◌≢◌, ◌∙◌, ℕ, ◌<◌, List, [], ◌∷◌, map, length, refl, sym, ap, subst, arith}
use Rattle.std.specs.List.{All, AllPairs, Contains}
use Rattle.std.proofs.lemmas.List.Elements.{All-map, All-weaker, All-contains}
use Rattle.algebra.specs.declared.node.Node.{Node}
use Rattle.algebra.specs.declared.output.PlanOut.{PlanOut}
use Rattle.algebra.specs.FoldLaws.{length-each}
use Rattle.algebra.specs.Items.{output_nodes}
use Rattle.algebra.specs.Mapping.{new_number, renumbered}
use Rattle.algebra.specs.Nodes.{IsPlan}
use Rattle.algebra.specs.Plans.{Parts, IsOutput, AreOutputs}
use Rattle.algebra.specs.Shapes.{shape_by, no_shape, shapes_of}
use Rattle.restrict_eval.specs.Keeping.{AreUnrestricted, AreApart}
use Rattle.restrict_eval.specs.Rebuilding.{IsRestrictedFrom}
use Rattle.restrict_eval.specs.Restricting.{AreRestricted}
use Rattle.restrict_eval.proofs.Distinct.{all_distinct, all_merged}
use Rattle.restrict_eval.proofs.Leaving.{live_below, all_restricted}

-- each output shows a node that is there
pub outputs_below : (nodes : List Node) (outs : List PlanOut) → AreOutputs nodes outs → All (λ (out : PlanOut). out.node < length nodes) outs
outputs_below nodes outs are =
    All-weaker (IsOutput (shapes_of nodes)) (λ out. out.node < length nodes) (λ out is. omega (arith, is.there, length-each no_shape shape_by nodes)) outs are.each

pub listed_below : (nodes : List Node) (outs : List PlanOut) → AreOutputs nodes outs → (i : ℕ) → Contains (map (λ (out : PlanOut). out.node) outs) i → i < length nodes
listed_below nodes outs are i listed =
    All-contains (λ (n : ℕ). n < length nodes) (map (λ (out : PlanOut). out.node) outs) i
    (All-map (λ (n : ℕ). n < length nodes) (λ (out : PlanOut). out.node) outs (outputs_below nodes outs are)) listed

-- the nodes that outputs show, renumbered
pub nodes_renumbered : (to : List ℕ) (outs : List PlanOut) → map (λ (out : PlanOut). out.node) (map (renumbered to) outs) ≡ map (λ (i : ℕ). new_number to i) (map (λ (out : PlanOut). out.node) outs)
nodes_renumbered to [] = refl
nodes_renumbered to (out ∷ outs) = ap (λ (ns : List ℕ). new_number to out.node ∷ ns) (nodes_renumbered to outs)

-- ---- the two plans

module _ (before after : Parts) (old new : List Node) (outs lent : List PlanOut) (to : List ℕ) (old_is : old ≡ before.nodes) (outs_are : outs ≡ before.outputs) (lent_are : lent ≡ outs) (new_is : after.nodes ≡ new)
    (shown_are : after.outputs ≡ map (renumbered to) outs) (plan : IsPlan old) (are : AreOutputs old outs) (rebuilt : IsRestrictedFrom old (map (λ (out : PlanOut). out.node) lent) new to) where
  abbrev shown_before : List ℕ
  shown_before = map (λ (out : PlanOut). out.node) outs

  rebuilt_here : IsRestrictedFrom old shown_before new to
  rebuilt_here = subst (λ (os : List PlanOut). IsRestrictedFrom old (map (λ (out : PlanOut). out.node) os) new to) lent_are rebuilt

  pub restricted_after : AreRestricted after.nodes (output_nodes after)
  restricted_after =
      let all : AreRestricted new (map (λ (i : ℕ). new_number to i) shown_before) =
      all_restricted old shown_before new to plan rebuilt_here (live_below old shown_before plan (listed_below old outs are)) in
      subst (λ (nodes : List Node). AreRestricted nodes (output_nodes after)) (sym new_is)
      (subst (λ (shown : List ℕ). AreRestricted new shown) (sym (ap (map (λ (out : PlanOut). out.node)) shown_are ∙ nodes_renumbered to outs)) all)

  pub distinct_after : AreUnrestricted before.nodes → AllPairs (λ a b. a ≢ b) before.nodes → AllPairs (λ a b. a ≢ b) after.nodes
  distinct_after plain distinct =
      subst (λ (nodes : List Node). AllPairs (λ a b. a ≢ b) nodes) (sym new_is)
      (all_distinct old shown_before new to plan rebuilt_here (subst AreUnrestricted (sym old_is) plain) (subst (λ (nodes : List Node). AllPairs (λ a b. a ≢ b) nodes) (sym old_is) distinct))

  pub merged_after : AreUnrestricted before.nodes → AllPairs AreApart before.nodes → AllPairs AreApart after.nodes
  merged_after plain merged =
      subst (λ (nodes : List Node). AllPairs AreApart nodes) (sym new_is)
      (all_merged old shown_before new to plan rebuilt_here (subst AreUnrestricted (sym old_is) plain) (subst (λ (nodes : List Node). AllPairs AreApart nodes) (sym old_is) merged))

  pub rebuilt_after : IsRestrictedFrom before.nodes (output_nodes before) after.nodes to
  rebuilt_after =
      subst (λ (nodes : List Node). IsRestrictedFrom before.nodes (output_nodes before) nodes to) (sym new_is)
      (subst (λ (os : List PlanOut). IsRestrictedFrom before.nodes (map (λ (out : PlanOut). out.node) os) new to) outs_are
      (subst (λ (nodes : List Node). IsRestrictedFrom nodes shown_before new to) old_is rebuilt_here))
