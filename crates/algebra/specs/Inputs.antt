-- Which nodes a node reads.
use Rattle.std.specs.Prelude.{ℕ, ◌<◌, Bool, false, Option, Some, None}
use Rattle.algebra.specs.declared.node.Node.{Node}
use Rattle.algebra.specs.declared.node.Node.TheVariants.{Doc, Regex, TokenRegex, Dict, DictPart, Blocks, Select, Project, Cross, SpanJoin, Restricted, Union, Minus, Consolidate, Group, OrderLimit}

-- the input of a node, the left one of two: the outer one of a restricted join
abbrev pub left_input : Node → Option ℕ
left_input Doc = None
left_input (Regex input column pattern groups) = Some input
left_input (TokenRegex input column low high pattern groups) = Some input
left_input (Dict input column dicts) = Some input
left_input (DictPart input number) = Some input
left_input (Blocks input column low high from to tokens) = Some input
left_input (Select input conds) = Some input
left_input (Project input items) = Some input
left_input (Cross left right conditional) = Some left
left_input (SpanJoin left right kind lc rc conditional) = Some left
left_input (Restricted outer source kind lc sought) = Some outer
left_input (Union left right) = Some left
left_input (Minus left right) = Some left
left_input (Consolidate input policy target) = Some input
left_input (Group input keys aggs) = Some input
left_input (OrderLimit input keys limit) = Some input

-- the right one of two: the source of a restricted join
abbrev pub right_input : Node → Option ℕ
right_input (Cross left right conditional) = Some right
right_input (SpanJoin left right kind lc rc conditional) = Some right
right_input (Restricted outer source kind lc sought) = Some source
right_input (Union left right) = Some right
right_input (Minus left right) = Some right
right_input node = None

-- the node with other numbers of inputs
abbrev pub with_inputs : (ℕ → ℕ) → Node → Node
with_inputs to Doc = Doc
with_inputs to (Regex input column pattern groups) = Regex (to input) column pattern groups
with_inputs to (TokenRegex input column low high pattern groups) = TokenRegex (to input) column low high pattern groups
with_inputs to (Dict input column dicts) = Dict (to input) column dicts
with_inputs to (DictPart input number) = DictPart (to input) number
with_inputs to (Blocks input column low high from upto tokens) = Blocks (to input) column low high from upto tokens
with_inputs to (Select input conds) = Select (to input) conds
with_inputs to (Project input items) = Project (to input) items
with_inputs to (Cross left right conditional) = Cross (to left) (to right) conditional
with_inputs to (SpanJoin left right kind lc rc conditional) = SpanJoin (to left) (to right) kind lc rc conditional
with_inputs to (Restricted outer source kind lc sought) = Restricted (to outer) (to source) kind lc sought
with_inputs to (Union left right) = Union (to left) (to right)
with_inputs to (Minus left right) = Minus (to left) (to right)
with_inputs to (Consolidate input policy target) = Consolidate (to input) policy target
with_inputs to (Group input keys aggs) = Group (to input) keys aggs
with_inputs to (OrderLimit input keys limit) = OrderLimit (to input) keys limit

-- a join that asks for its right input only where its left one has a row
abbrev pub is_conditional : Node → Bool
is_conditional (Cross left right conditional) = conditional
is_conditional (SpanJoin left right kind lc rc conditional) = conditional
is_conditional node = false

-- an input, where there is one, is among so many nodes
abbrev pub IsAmong : ℕ → Option ℕ → Type 0
IsAmong count None = Unit {0}
IsAmong count (Some i) = i < count
