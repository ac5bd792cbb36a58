-- What is known of the rows of a node: how many columns they have, and what they are.
use Rattle.std.specs.Prelude.{ℕ, ◌+◌, ◌-◌, ◌≡◌, ◌<◌, ◌≤◌, List, length, [], All}
use Rattle.group_agg.specs.Groups.{HasKey, HasColumn}
use Rattle.scalar_ops.specs.Expressions.{ReadsBelow}
use Rattle.algebra.specs.declared.node.Local.{Local}
use Rattle.algebra.specs.declared.node.Local.TheVariants as sought
use Rattle.algebra.specs.declared.node.Node.{Node}
use Rattle.algebra.specs.declared.node.Node.TheVariants.{Doc, Regex, TokenRegex, Dict, DictPart, Blocks, Select, Project, Cross, SpanJoin, Restricted, Union, Minus, Consolidate, Group, OrderLimit}
use Rattle.algebra.specs.declared.shape.Form.{Form}
use Rattle.algebra.specs.declared.shape.Form.TheVariants.{Document, Marked, Plain}
use Rattle.algebra.specs.declared.shape.Shape.{Shape}
use Rattle.algebra.specs.Folds.{all_from}

-- rows of so many columns
abbrev pub columns : ℕ → Shape
columns width = record { width = width; form = Plain }

-- the row of the document
abbrev pub document_shape : Shape
document_shape = record { width = 1; form = Document }

-- the shape of a node by those of its inputs: one line each
abbrev pub shape_by : Node → Shape → Shape → Shape
shape_by Doc left right = document_shape
shape_by (Regex input column pattern groups) left right = columns (left.width + length groups)
shape_by (TokenRegex input column low high pattern groups) left right = columns (left.width + length groups)
shape_by (Dict input column dicts) left right = record { width = left.width + 2; form = Marked (length dicts) }
shape_by (DictPart input number) left right = columns (left.width - 1)
shape_by (Blocks input column low high from to tokens) left right = columns 1
shape_by (Select input conds) left right = columns left.width
shape_by (Project input items) left right = columns (length items)
shape_by (Cross l r conditional) left right = columns (left.width + right.width)
shape_by (SpanJoin l r join lc rc conditional) left right = columns (left.width + right.width)
shape_by (Restricted outer source join lc local_part) left right = columns (left.width + 2)
shape_by (Union l r) left right = columns left.width
shape_by (Minus l r) left right = columns left.width
shape_by (Consolidate input policy target) left right = columns left.width
shape_by (Group input keys aggs) left right = columns (length aggs)
shape_by (OrderLimit input keys limit) left right = columns left.width

-- the shape of a node that isn't there
abbrev pub no_shape : Shape
no_shape = columns 0

-- the shapes of all nodes, by their numbers
abbrev pub shapes_of : List Node → List Shape
shapes_of nodes = all_from no_shape shape_by [] nodes

-- rows that have no dictionary's number: any node may read them, and an output may show them
abbrev pub IsOpenForm : Form → Type 0
IsOpenForm Document = Unit {0}
IsOpenForm (Marked count) = ⊥
IsOpenForm Plain = Unit {0}

abbrev pub IsOpen : Shape → Type 0
IsOpen shape = IsOpenForm shape.form

-- rows that have numbers of dictionaries, this one among them
abbrev pub HasDictNumberForm : Form → ℕ → Type 0
HasDictNumberForm Document number = ⊥
HasDictNumberForm (Marked count) number = number < count
HasDictNumberForm Plain number = ⊥

pub record HasDictNumber (shape : Shape) (number : ℕ) : Type 0 where
  pub listed : HasDictNumberForm shape.form number
  pub room : 2 ≤ shape.width

-- a run of tokens has one token or more
abbrev pub IsSought : Local → Type 0
IsSought (sought.TokenRegex low high pattern) = 1 ≤ low
IsSought (sought.Dict d) = Unit {0}

-- a node may read inputs of these shapes: every column that it names is there, both sides of a union and of a
-- difference have one width, and a run of tokens has one token or more
abbrev pub IsMade : Node → Shape → Shape → Type 0
IsMade Doc left right = Unit {0}
IsMade (Regex input column pattern groups) left right = IsOpen left × (column < left.width)
IsMade (TokenRegex input column low high pattern groups) left right = IsOpen left × (column < left.width) × (1 ≤ low)
IsMade (Dict input column dicts) left right = IsOpen left × (column < left.width)
IsMade (DictPart input number) left right = HasDictNumber left number
IsMade (Blocks input column low high from to tokens) left right = IsOpen left × (column < left.width)
IsMade (Select input conds) left right = IsOpen left × All (ReadsBelow left.width) conds
IsMade (Project input items) left right = IsOpen left × All (ReadsBelow left.width) items
IsMade (Cross l r conditional) left right = IsOpen left × IsOpen right
IsMade (SpanJoin l r join lc rc conditional) left right = IsOpen left × IsOpen right × (lc < left.width) × (rc < right.width)
IsMade (Restricted outer source join lc local_part) left right = IsOpen left × (right ≡ document_shape) × (lc < left.width) × IsSought local_part
IsMade (Union l r) left right = IsOpen left × IsOpen right × (right.width ≡ left.width)
IsMade (Minus l r) left right = IsOpen left × IsOpen right × (right.width ≡ left.width)
IsMade (Consolidate input policy target) left right = IsOpen left × ReadsBelow left.width target
IsMade (Group input keys aggs) left right =
    IsOpen left × All (λ key. key < left.width) keys × All (HasKey (length keys)) aggs × All (HasColumn left.width) aggs
IsMade (OrderLimit input keys limit) left right = IsOpen left × All (λ key. key < left.width) keys
