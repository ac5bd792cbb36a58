-- The text of a plan: a line for each node, with its number, its name and the numbers of its inputs, and a line for each
-- output, with its name and the number of its node.
use Rattle.std.specs.Prelude.{ℕ, ◌+◌, List, [], ◌∷◌, ◌++◌, Option, None, Some, codes}
use Rattle.std.specs.Fmt.{decimal}
use Rattle.std.specs.List.{flat_map}
use Rattle.algebra.specs.declared.node.Node.{Node}
use Rattle.algebra.specs.declared.node.Node.TheVariants.{Doc, Regex, TokenRegex, Dict, DictPart, Blocks, Select, Project, Cross, SpanJoin, Restricted, Union, Minus, Consolidate, Group, OrderLimit}
use Rattle.algebra.specs.declared.output.PlanOut.{PlanOut}
use Rattle.algebra.specs.Inputs.{left_input, right_input}
use Rattle.algebra.specs.Plans.{Parts}

-- the name of a node's operator: one line each
abbrev pub operator_name : Node → List ℕ
operator_name Doc = codes "Doc"
operator_name (Regex input column pattern groups) = codes "Regex"
operator_name (TokenRegex input column low high pattern groups) = codes "TokenRegex"
operator_name (Dict input column dicts) = codes "Dict"
operator_name (DictPart input number) = codes "DictPart"
operator_name (Blocks input column low high from to tokens) = codes "Blocks"
operator_name (Select input conds) = codes "Select"
operator_name (Project input items) = codes "Project"
operator_name (Cross left right conditional) = codes "Cross"
operator_name (SpanJoin left right kind lc rc conditional) = codes "SpanJoin"
operator_name (Restricted outer source kind lc sought) = codes "Restricted"
operator_name (Union left right) = codes "Union"
operator_name (Minus left right) = codes "Minus"
operator_name (Consolidate input policy target) = codes "Consolidate"
operator_name (Group input keys aggs) = codes "Group"
operator_name (OrderLimit input keys limit) = codes "OrderLimit"

-- a space and the number of an input, where there is one
abbrev pub input_text : Option ℕ → List ℕ
input_text None = []
input_text (Some n) = codes " " ++ decimal n

-- the line of node n; inputs stand in the order of the node's fields
abbrev pub node_line : ℕ → Node → List ℕ
node_line n node = decimal n ++ codes " " ++ operator_name node ++ input_text (left_input node) ++ input_text (right_input node) ++ codes "\n"

-- the lines of nodes, of which the first has this number
abbrev pub node_lines : ℕ → List Node → List ℕ
node_lines n [] = []
node_lines n (node ∷ nodes) = node_line n node ++ node_lines (n + 1) nodes

-- the line of an output
abbrev pub output_line : PlanOut → List ℕ
output_line out = codes "out " ++ out.names.name ++ codes " " ++ decimal out.node ++ codes "\n"

abbrev pub text_of : Parts → List ℕ
text_of plan = node_lines 0 plan.nodes ++ flat_map output_line plan.outputs
