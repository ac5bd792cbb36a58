-- Laws of lists of nodes that make a plan.
use Rattle.std.proofs.Common.{◌≡◌, ℕ, ◌+◌, ◌<◌, ◌≤◌, List, [], ◌∷◌, ◌++◌, length, get_or, take, drop, sym, ap, subst, ◌∙◌, arith, Option, Some, None}
use Rattle.std.proofs.lemmas.List.{length-append, take-append-drop, drop_more}
use Rattle.algebra.specs.declared.node.Node.{Node}
use Rattle.algebra.specs.declared.shape.Shape.{Shape}
use Rattle.algebra.specs.Inputs.{left_input, right_input, IsAmong}
use Rattle.algebra.specs.Folds.{had, all_from}
use Rattle.algebra.specs.Shapes.{shape_by, no_shape, shapes_of}
use Rattle.algebra.specs.Nodes.{IsNode, ArePlanned, IsPlan}
use Rattle.algebra.specs.FoldLaws.{length-each, input-kept}

-- a node that may stand behind the others is put there
planned-push : (shapes : List Shape) (nodes : List Node) (node : Node) → ArePlanned shapes nodes → IsNode (all_from no_shape shape_by shapes nodes) node → ArePlanned shapes (nodes ++ node ∷ [])
planned-push shapes [] node planned valid = (valid, tt)
planned-push shapes (n ∷ nodes) node planned valid = (planned.0, planned-push (shapes ++ had no_shape shape_by shapes n ∷ []) nodes node planned.1 valid)

pub plan-push : (nodes : List Node) (node : Node) → IsPlan nodes → IsNode (shapes_of nodes) node → IsPlan (nodes ++ node ∷ [])
plan-push nodes node plan valid = planned-push [] nodes node plan valid

-- each node may stand behind those in front of it
planned-at : (shapes : List Shape) (xs : List Node) (node : Node) (ys : List Node) → ArePlanned shapes (xs ++ node ∷ ys) → IsNode (all_from no_shape shape_by shapes xs) node
planned-at shapes [] node ys planned = planned.0
planned-at shapes (x ∷ xs) node ys planned = planned-at (shapes ++ had no_shape shape_by shapes x ∷ []) xs node ys planned.1

pub plan-at : (xs : List Node) (node : Node) (ys : List Node) → IsPlan (xs ++ node ∷ ys) → IsNode (shapes_of xs) node
plan-at xs node ys plan = planned-at [] xs node ys plan

-- the nodes in front are a plan
planned-front : (shapes : List Shape) (xs ys : List Node) → ArePlanned shapes (xs ++ ys) → ArePlanned shapes xs
planned-front shapes [] ys planned = tt
planned-front shapes (x ∷ xs) ys planned = (planned.0, planned-front (shapes ++ had no_shape shape_by shapes x ∷ []) xs ys planned.1)

pub plan-front : (xs ys : List Node) → IsPlan (xs ++ ys) → IsPlan xs
plan-front xs ys plan = planned-front [] xs ys plan

-- the list in front of node i, the node, and those behind it
pub split_at : (nodes : List Node) (i : ℕ) (node : Node) → i < length nodes → node ≡ get_or nodes i node → nodes ≡ take i nodes ++ node ∷ drop (i + 1) nodes
split_at nodes i node below is =
    sym (take-append-drop i nodes) ∙ ap (λ (rest : List Node). take i nodes ++ rest) (drop_more nodes i node below ∙ ap (λ n. n ∷ drop (i + 1) nodes) (sym is))

pub among-more : (m n : ℕ) (o : Option ℕ) → m ≤ n → IsAmong m o → IsAmong n o
among-more m n None most among = tt
among-more m n (Some i) most among = omega (arith, most, among)

-- a node that may stand behind some nodes may stand behind more
pub valid-kept : (xs ys : List Node) (node : Node) → IsNode (shapes_of xs) node → IsNode (shapes_of (xs ++ ys)) node
valid-kept xs ys node valid =
    let few : length (shapes_of xs) ≤ length (shapes_of (xs ++ ys)) = omega (arith, length-each no_shape shape_by xs, length-each no_shape shape_by (xs ++ ys), length-append xs ys) in
    let left : IsAmong (length xs) (left_input node) = subst (λ n. IsAmong n (left_input node)) (length-each no_shape shape_by xs) valid.left_below in
    let right : IsAmong (length xs) (right_input node) = subst (λ n. IsAmong n (right_input node)) (length-each no_shape shape_by xs) valid.right_below in
    record {
      left_below = among-more (length (shapes_of xs)) (length (shapes_of (xs ++ ys))) (left_input node) few valid.left_below;
      right_below = among-more (length (shapes_of xs)) (length (shapes_of (xs ++ ys))) (right_input node) few valid.right_below;
      made = rw (input-kept no_shape shape_by xs ys (left_input node) left, input-kept no_shape shape_by xs ys (right_input node) right) valid.made;
    }
