-- Nodes that are put together anew, one by one.
use Rattle.std.proofs.Common.{◌≡◌, ℕ, ◌+◌, ◌<◌, List, [], ◌∷◌, ◌++◌, length, get_or, map, take, drop, sym, ap, subst, ◌∙◌}
use Rattle.std.proofs.lemmas.List.{map-id}
use Rattle.algebra.specs.declared.node.Node.{Node}
use Rattle.algebra.specs.FoldLaws.{length-each}
use Rattle.algebra.specs.Growth.{Stands}
use Rattle.algebra.specs.Inputs.{left_input, right_input, with_inputs, IsAmong}
use Rattle.algebra.specs.Mapping.{every, new_number, IsMapped, IsRebuilt, KeepsInputs}
use Rattle.algebra.specs.MappingLaws.{mapped-push, node-renamed}
use Rattle.algebra.specs.NodeLaws.{plan-at, split_at}
use Rattle.algebra.specs.Nodes.{IsNode, IsPlan}
use Rattle.algebra.specs.Shapes.{shape_by, no_shape, shapes_of}
use Rattle.std.proofs.Common.{Option, Some, None}
use Rattle.std.specs.Option.{IfSome}

-- the node behind those that were taken is a node of the plan of these
pub next_valid : (nodes yielded : List Node) (node : Node) → IsPlan nodes → map (λ x. x) yielded ≡ take (length yielded) nodes → length yielded < length nodes → node ≡ get_or nodes (length yielded) node
    → IsNode (shapes_of yielded) node
next_valid nodes yielded node plan so_far below is =
    let i = length yielded in
    let front : take i nodes ≡ yielded = sym so_far ∙ map-id yielded in
    let split : nodes ≡ yielded ++ node ∷ drop (i + 1) nodes = split_at nodes i node below is ∙ ap (λ (xs : List Node). xs ++ node ∷ drop (i + 1) nodes) front in
    plan-at yielded node (drop (i + 1) nodes) (subst IsPlan split plan)

every_input : (o : Option ℕ) → IfSome o every
every_input None = tt
every_input (Some i) = tt

pub every_kept : (node : Node) → KeepsInputs every node
every_kept node = record { left = every_input (left_input node); right = every_input (right_input node) }

among_to : (old : List Node) (to : List ℕ) (o : Option ℕ) → length to ≡ length old → IsAmong (length (shapes_of old)) o → IsAmong (length to) o
among_to old to o long among = subst (λ k. IsAmong k o) (length-each no_shape shape_by old ∙ sym long) among

module _ (Knows : Type 0) (old new : List Node) (to : List ℕ) (so_far : IsRebuilt Knows old new to) (node : Node) (valid : IsNode (shapes_of old) node) where
  pub left_there : IsAmong (length to) (left_input node)
  left_there = among_to old to (left_input node) so_far.mapped.long valid.left_below

  pub right_there : IsAmong (length to) (right_input node)
  right_there = among_to old to (right_input node) so_far.mapped.long valid.right_below

  pub renamed_valid : IsNode (shapes_of new) (with_inputs (new_number to) node)
  renamed_valid = node-renamed every old new to so_far.mapped node valid (every_kept node)

  pub one_more : (later : List Node) (n : ℕ) → Stands new later n (with_inputs (new_number to) node) → IsMapped every (old ++ node ∷ []) later (to ++ n ∷ [])
  one_more later n stands = mapped-push every old new to so_far.mapped node later n valid (every_kept node) stands
