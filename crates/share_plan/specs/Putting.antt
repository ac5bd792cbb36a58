-- One node more in a plan in which each column is searched for dictionaries once. A `Dict` node waits among the sources until a
-- part of it is put; its dictionary then stands behind those that the column's `Dict` node has.
use Rattle.std.specs.Prelude.{ℕ, ◌+◌, ◌≡◌, ◌<◌, ◌≤◌, ◌⊎◌, Some, List, [], ◌∷◌, ◌++◌, length, slice_get, slice_index_or}
use Rattle.span_token.specs.Documents.{Doc}
use Rattle.scalar_ops.specs.Tables.{Lists}
use Rattle.aql_typed.specs.Trees.{dict}
use Rattle.algebra.specs.declared.node.Node.{Node}
use Rattle.algebra.specs.declared.node.Node.TheVariants.{Dict, DictPart}
use Rattle.algebra.specs.Growth.{Has, Stands}
use Rattle.algebra.specs.Nodes.{IsNode}
use Rattle.algebra.specs.Operators.{with_found}
use Rattle.algebra.specs.Shapes.{columns, no_shape, shapes_of, IsOpen}
use Rattle.algebra.specs.Values.{val}
use Rattle.share_plan.specs.declared.kind.Kind.{Kind}
use Rattle.share_plan.specs.declared.kind.Kind.TheVariants.{Source, Part, Plain}
use Rattle.share_plan.specs.Kinds.{kind_of}

-- any node may read the rows of node n
abbrev pub IsOpenAt : List Node → ℕ → Type 0
IsOpenAt nodes n = IsOpen (slice_index_or (shapes_of nodes) n no_shape)

-- nodes that any node may read have stayed, with their shapes and, on each document, their rows
pub record Keeps (old new : List Node) : Type 0 where
  pub long : length old ≤ length new
  pub shaped : (n : ℕ) → n < length old → IsOpenAt old n → slice_index_or (shapes_of new) n no_shape ≡ slice_index_or (shapes_of old) n no_shape
  pub same : (lists : Lists) (doc : Doc) (n : ℕ) → n < length old → IsOpenAt old n → val lists doc new n ≡ val lists doc old n

-- all nodes but `Dict` nodes have stayed, and the new ones are `Dict` nodes and parts
pub record Extends (old new : List Node) : Type 0 where
  pub stay : (k : ℕ) (node : Node) → slice_get old k ≡ Some node → (kind_of node ≡ Source → ⊥) → slice_get new k ≡ Some node
  pub were : (k : ℕ) (node : Node) → slice_get new k ≡ Some node → kind_of node ≡ Plain → slice_get old k ≡ Some node

-- node n is this one: it was there, or was put behind the others
pub record IsFoundOrPut (old new : List Node) (n : ℕ) (node : Node) : Type 0 where
  pub put : (new ≡ old) ⊎ ((new ≡ old ++ node ∷ []) × (n ≡ length old))
  pub at : slice_get new n ≡ Some node

-- node n is a part
abbrev pub IsPartAt : List Node → ℕ → Type 0
IsPartAt nodes n = (input number : ℕ) × (slice_get nodes n ≡ Some (DictPart input number))

-- node m searches this column of this input for dictionaries
abbrev pub IsDictOf : List Node → ℕ → ℕ → ℕ → Type 0
IsDictOf nodes m input column = (dicts : List ℕ) × (slice_get nodes m ≡ Some (Dict input column dicts))

-- node n of the new plan has the rows of a node of the old one, followed by the matches of a dictionary in a column
abbrev pub IsFound : List Node → List Node → ℕ → ℕ → ℕ → ℕ → Type 0
IsFound old new n input column d =
    Has new n (columns ((slice_index_or (shapes_of old) input no_shape).width + 1)) (λ lists doc. with_found lists doc (dict column d) (val lists doc old input))

-- source k is a `Dict` node that has the number
pub record HasSource (sources : List Node) (k number : ℕ) : Type 0 where
  pub input : ℕ
  pub column : ℕ
  pub dicts : List ℕ
  pub source : slice_get sources k ≡ Some (Dict input column dicts)
  pub listed : number < length dicts

-- a node of this kind may be put behind the nodes: a part where the column's `Dict` node may
abbrev pub MayPut : List Node → List Node → Kind → Node → Type 0
MayPut sources nodes Source node = Unit {0}
MayPut sources nodes (Part k number) node = (has : HasSource sources k number) × IsNode (shapes_of nodes) (Dict has.input has.column [])
MayPut sources nodes Plain node = IsNode (shapes_of nodes) node

-- sources and nodes after a node of this kind was put, and its number among them
abbrev pub IsPut : (sources nodes : List Node) (later after : List Node) → ℕ → Kind → Node → Type 0
IsPut sources nodes later after n Source node = (later ≡ sources ++ node ∷ []) × (after ≡ nodes) × (n ≡ length sources)
IsPut sources nodes later after n (Part k number) node =
    (later ≡ sources) × Keeps nodes after × Extends nodes after × IsPartAt after n
    × ((input column d : ℕ) (dicts : List ℕ) → slice_get sources k ≡ Some (Dict input column dicts) → slice_get dicts number ≡ Some d → IsFound nodes after n input column d)
IsPut sources nodes later after n Plain node = (later ≡ sources) × Stands nodes after n node × IsFoundOrPut nodes after n node
