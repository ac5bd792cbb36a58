-- What was found out of a node and of outputs, as plans want it.
use Rattle.std.proofs.Common.{◌≡◌, ◌<◌, ◌≤◌, ℕ, List, Option, Some, None, length, map, sym, ap₂, subst, arith, All}
use Rattle.std.specs.Prelude.{slice_index_or}
use Rattle.row_values.specs.Outputs.{HasDistinctNames}
use Rattle.algebra.specs.declared.node.Node.{Node}
use Rattle.algebra.specs.declared.output.PlanOut.{PlanOut}
use Rattle.algebra.specs.declared.shape.Form.{Form}
use Rattle.algebra.specs.declared.shape.Form.TheVariants.{Document, Marked}
use Rattle.algebra.specs.declared.shape.Shape.{Shape}
use Rattle.algebra.specs.FoldLaws.{length-each}
use Rattle.algebra.specs.Folds.{of_input}
use Rattle.algebra.specs.Inputs.{left_input, right_input, IsAmong}
use Rattle.algebra.specs.Nodes.{IsNode}
use Rattle.algebra.specs.Plans.{IsOutput, AreOutputs}
use Rattle.algebra.specs.Shapes.{document_shape, shape_by, shapes_of, no_shape, HasDictNumber, HasDictNumberForm, IsMade, IsOpen}

-- a node is among the shapes of all nodes
pub among_shapes : (nodes : List Node) (n : ℕ) → n < length nodes → n < length (shapes_of nodes)
among_shapes nodes n below = omega (arith, below, length-each no_shape shape_by nodes)

among_all : (nodes : List Node) (o : Option ℕ) → IsAmong (length nodes) o → IsAmong (length (shapes_of nodes)) o
among_all nodes None below = tt
among_all nodes (Some n) below = among_shapes nodes n below

-- a node may stand where its inputs are there, with shapes that it may read
pub may_stand : (nodes : List Node) (node : Node) (left right : Shape) → IsAmong (length nodes) (left_input node) → IsAmong (length nodes) (right_input node)
    → left ≡ of_input no_shape (shapes_of nodes) (left_input node) → right ≡ of_input no_shape (shapes_of nodes) (right_input node) → IsMade node left right → IsNode (shapes_of nodes) node
may_stand nodes node left right left_below right_below left_is right_is made = record {
  left_below = among_all nodes (left_input node) left_below;
  right_below = among_all nodes (right_input node) right_below;
  made = subst (λ (s : Shape). IsMade node s (of_input no_shape (shapes_of nodes) (right_input node))) left_is (subst (λ (t : Shape). IsMade node left t) right_is made);
}

-- an output may show a node that is there, without numbers of dictionaries, with a name for each column
pub may_show : (nodes : List Node) (out : PlanOut) (shape : Shape) → out.node < length nodes → shape ≡ slice_index_or (shapes_of nodes) out.node no_shape → IsOpen shape
    → length out.names.columns ≡ shape.width → IsOutput (shapes_of nodes) out
may_show nodes out shape there is opened columns = record {
  there = among_shapes nodes out.node there;
  shown = subst IsOpen is opened;
  columns = subst (λ (s : Shape). length out.names.columns ≡ s.width) is columns;
}

-- outputs with names that differ
pub are_outputs : (nodes : List Node) (outs : List PlanOut) (names : List (List ℕ)) → All (IsOutput (shapes_of nodes)) outs → names ≡ map (λ (out : PlanOut). out.names.name) outs → HasDistinctNames names
    → AreOutputs nodes outs
are_outputs nodes outs names each are distinct = record { each = each; distinct = subst HasDistinctNames are distinct }

-- the row of the document, by its parts
pub document_is : (shape : Shape) → shape.form ≡ Document → shape.width ≡ 1 → shape ≡ document_shape
document_is shape form wide = ap₂ (λ (w : ℕ) (f : Form). let made : Shape = record { width = w; form = f } in made) wide form

-- one of the numbers of a shape
pub number_is : (shape : Shape) (count number : ℕ) → shape.form ≡ Marked count → number < count → 2 ≤ shape.width → HasDictNumber shape number
number_is shape count number form below room = record { listed = subst (λ (f : Form). HasDictNumberForm f number) (sym form) below; room = room }
