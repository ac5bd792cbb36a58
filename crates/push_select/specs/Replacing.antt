-- What nodes that take the place of others have.
use Rattle.std.specs.Prelude.{ℕ, ◌≡◌, ◌+◌, false, List, ◌++◌, Some, map, All, slice_index_or}
use Rattle.std.specs.List.{range_with_len}
use Rattle.span_token.specs.Documents.{Doc as Document}
use Rattle.row_values.specs.Datums.{Datum}
use Rattle.row_values.specs.Rows.{product}
use Rattle.span_joins.specs.Joins.{joined_where}
use Rattle.scalar_ops.specs.Expressions.{Term, column, ReadsBelow}
use Rattle.scalar_ops.specs.SideLaws.{left_conditions, right_conditions, joint_conditions}
use Rattle.scalar_ops.specs.Tables.{Lists}
use Rattle.scalar_ops.specs.Values.{holding}
use Rattle.scalar_ops.specs.Views.{term_of}
use Rattle.aql_typed.specs.Meaning.{Rows, selected}
use Rattle.algebra.specs.declared.node.Local.{Local}
use Rattle.algebra.specs.declared.node.Node.{Node}
use Rattle.algebra.specs.declared.node.Node.TheVariants.{Cross, SpanJoin, Union, Project}
use Rattle.algebra.specs.declared.shape.Shape.{Shape}
use Rattle.algebra.specs.Growth.{Grows, Has}
use Rattle.algebra.specs.Nodes.{IsPlan}
use Rattle.algebra.specs.Operators.{does_join, sought_by, with_found}
use Rattle.algebra.specs.Shapes.{IsOpen, columns, no_shape, shapes_of}
use Rattle.algebra.specs.Values.{val}
use Rattle.push_select.specs.declared.below.Below.{Below}
use Rattle.push_select.specs.declared.below.Below.TheVariants as below
use Rattle.push_select.specs.declared.below.Pair.{Pair}
use Rattle.push_select.specs.declared.below.Three.{Three}
use Rattle.push_select.specs.declared.join.Join.{Join}
use Rattle.push_select.specs.declared.selection.NarrowedPair.{NarrowedPair}
use Rattle.push_select.specs.Conditions.{IsApart}
use Rattle.push_select.specs.Pushed.{width_at, StandAbove, ShowsColumns, ArePushed, AreUnrestricted}

-- nodes of a plan whose conditions stand where they may, and whose joins ask for both of their inputs
pub record IsPushed (nodes : List Node) : Type 0 where
  pub plan : IsPlan nodes
  pub pushed : ArePushed nodes
  pub unrestricted : AreUnrestricted nodes

-- the nodes that combine two others
abbrev pub cross_of : Pair → Node
cross_of pair = Cross pair.left pair.right false

abbrev pub join_of_pair : Pair → Join → Node
join_of_pair pair join = SpanJoin pair.left pair.right join.kind join.lc join.rc false

-- what is told of a node is so: what it combines, or of which node it shows which columns; and conditions may stand above
-- any other
abbrev pub IsBelow : Node → Below → Type 0
IsBelow node (below.Product pair) = node ≡ cross_of pair
IsBelow node (below.Joined pair join) = node ≡ join_of_pair pair join
IsBelow node (below.Both left right) = node ≡ Union left right
IsBelow node (below.Columns input shown) = node ≡ Project input (map column shown.items)
IsBelow node below.Other = ((nodes : List Node) (conds : List Term) → StandAbove nodes conds (Some node)) × (ShowsColumns (Some node) → ⊥)

-- how two lists of rows are combined, on a document
abbrev pub Combination : Type 0
Combination = Document → Rows → Rows → Rows

abbrev pub all_pairs : Combination
all_pairs doc left right = product left right

abbrev pub joined_by : Join → Combination
joined_by join doc left right = joined_where (does_join doc join.kind) left join.lc right join.rc

-- how many columns a left and a right row have together
abbrev pub joint_width : List Node → Pair → ℕ
joint_width nodes pair = width_at nodes pair.left + width_at nodes pair.right

-- of three nodes the first two, and the last two
abbrev pub front_of : Three → Pair
front_of three = record { left = three.first; right = three.second }

abbrev pub behind_of : Three → Pair
behind_of three = record { left = three.second; right = three.third }

-- how many columns rows of three nodes have together
abbrev pub three_width : List Node → Three → ℕ
three_width nodes three = joint_width nodes (front_of three) + width_at nodes three.third

-- the columns of a product, by the numbers that they have where its sides, of so many columns, are swapped
abbrev pub columns_swapped : ℕ → ℕ → List ℕ
columns_swapped first second = range_with_len second first ++ range_with_len 0 second

-- rows of node n are any rows
abbrev pub IsPlain : List Node → ℕ → Type 0
IsPlain nodes n = slice_index_or (shapes_of nodes) n no_shape ≡ columns (width_at nodes n)

-- node n may be read, has so many columns, and on each document these rows, as a bag
pub record Gives (nodes : List Node) (n width : ℕ) (rows : Lists → Document → Rows) : Type 0 where
  pub shape : Shape
  pub readable : IsOpen shape
  pub wide : shape.width ≡ width
  pub has : Has nodes n shape rows

-- node n of the new plan gives those rows of node i of the old one on which the conditions hold
pub record Narrows (old new : List Node) (i n : ℕ) (conds : List Term) : Type 0 where
  pub grows : Grows old new
  pub gives : Gives new n (width_at old i) (λ lists doc. selected lists doc conds (val lists doc old i))

-- the two new nodes give the rows of two old ones on which those of the conditions hold that read one side alone; the joint
-- ones are left. The conditions are taken apart first: the parts hold where they hold
pub record NarrowsPair (old new : List Node) (pair : Pair) (conds : List Term) (narrowed : NarrowedPair) : Type 0 where
  pub parts : List Term
  pub same : (lists : Lists) (doc : Document) (row : List Datum) → holding lists doc parts row ≡ holding lists doc conds row
  pub reads : All (ReadsBelow (joint_width old pair)) parts
  pub grows : Grows old new
  pub left : Gives new narrowed.pair.left (width_at old pair.left) (λ lists doc. selected lists doc (left_conditions (width_at old pair.left) parts) (val lists doc old pair.left))
  pub right : Gives new narrowed.pair.right (width_at old pair.right) (λ lists doc. selected lists doc (right_conditions (width_at old pair.left) parts) (val lists doc old pair.right))
  pub joint : map term_of narrowed.joint.items ≡ joint_conditions (width_at old pair.left) parts
  pub apart : All IsApart parts

-- node n of the new plan has the rows that two old nodes combine to on which the conditions hold
pub record Combines (old new : List Node) (pair : Pair) (n : ℕ) (rows : Combination) (conds : List Term) : Type 0 where
  pub grows : Grows old new
  pub has : Has new n (columns (joint_width old pair)) (λ lists doc. selected lists doc conds (rows doc (val lists doc old pair.left) (val lists doc old pair.right)))

-- node n of the new plan has the joined rows of three old nodes on which the conditions hold
pub record CombinesThree (old new : List Node) (three : Three) (n : ℕ) (conds : List Term) : Type 0 where
  pub grows : Grows old new
  pub has : Has new n (columns (three_width old three)) (λ lists doc. selected lists doc conds (product (product (val lists doc old three.first) (val lists doc old three.second)) (val lists doc old three.third)))

-- node n of the new plan has what is sought in the document, which is the row of node `source` of the old one
pub record Searches (old new : List Node) (source n : ℕ) (sought : Local) : Type 0 where
  pub grows : Grows old new
  pub has : Has new n (columns 2) (λ lists doc. with_found lists doc (sought_by sought) (val lists doc old source))
