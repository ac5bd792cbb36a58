-- Plans: nodes, the tables that they name, and outputs.
use Rattle.std.specs.Prelude.{◌≡◌, ◌<◌, List, map, length, All, slice_index_or}
use Rattle.std.specs.List.{AllZip}
use Rattle.aql_base.specs.Bags.{SameBag}
use Rattle.span_token.specs.Documents.{Doc}
use Rattle.row_values.specs.Outputs.{HasDistinctNames}
use Rattle.scalar_ops.specs.Tables.{Lists}
use Rattle.algebra.specs.declared.node.Node.{Node}
use Rattle.algebra.specs.declared.output.PlanOut.{PlanOut}
use Rattle.algebra.specs.declared.shape.Shape.{Shape}
use Rattle.algebra.specs.Values.{val}
use Rattle.algebra.specs.Shapes.{shapes_of, no_shape, IsOpen}

-- the parts of a plan
pub record Parts : Type 0 where
  pub nodes : List Node
  pub lists : Lists
  pub outputs : List PlanOut

-- the output's node is among nodes of these shapes, isn't marked with numbers of dictionaries, and has a column for each name
pub record IsOutput (shapes : List Shape) (out : PlanOut) : Type 0 where
  pub there : out.node < length shapes
  pub shown : IsOpen (slice_index_or shapes out.node no_shape)
  pub columns : length out.names.columns ≡ (slice_index_or shapes out.node no_shape).width

-- each output shows a node, and no two have one name
pub record AreOutputs (nodes : List Node) (outputs : List PlanOut) : Type 0 where
  pub each : All (IsOutput (shapes_of nodes)) outputs
  pub distinct : HasDistinctNames (map (λ out. out.names.name) outputs)

-- an output of another plan has the same names, and on each document the same rows, as a bag
pub record KeepsOutput (old new : Parts) (before after : PlanOut) : Type 0 where
  pub names : after.names ≡ before.names
  pub rows : (doc : Doc) → SameBag (val new.lists doc new.nodes after.node) (val old.lists doc old.nodes before.node)

-- the new plan has the old one's tables, and its outputs one by one
pub record KeepsOutputs (old new : Parts) : Type 0 where
  pub lists : new.lists ≡ old.lists
  pub outputs : AllZip (KeepsOutput old new) old.outputs new.outputs
