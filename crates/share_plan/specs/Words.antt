-- Nodes as lists of numbers: no two nodes have one list.
use Rattle.std.specs.Prelude.{ℤ, pos, Bool, if◌then◌else◌, Some, None, List, [], ◌∷◌, ◌++◌, map, length}
use Rattle.std.specs.List.{flat_map}
use Rattle.group_agg.specs.declared.agg.Agg.{Agg}
use Rattle.group_agg.specs.declared.agg.Agg.TheVariants.{Key, Count, CountOf, Sum, Min, Max}
use Rattle.span_sets.specs.declared.policy.Policy.{Policy}
use Rattle.span_sets.specs.declared.policy.Policy.TheVariants.{ContainedWithin, NotContainedWithin, ContainsButNotEqual, ExactMatch, LeftToRight}
use Rattle.algebra.specs.declared.node.JoinKind.{JoinKind}
use Rattle.algebra.specs.declared.node.JoinKind.TheVariants as kind
use Rattle.algebra.specs.declared.node.Local.{Local}
use Rattle.algebra.specs.declared.node.Local.TheVariants as sought
use Rattle.algebra.specs.declared.node.Node.{Node}
use Rattle.algebra.specs.declared.node.Node.TheVariants.{Doc, Regex, TokenRegex, Dict, DictPart, Blocks, Select, Project, Cross, SpanJoin, Restricted, Union, Minus, Consolidate, Group, OrderLimit}
use Rattle.share_plan.specs.ExprWords.{term_words, list_words}

abbrev pub policy_word : Policy → ℤ
policy_word ContainedWithin = pos 0
policy_word NotContainedWithin = pos 1
policy_word ContainsButNotEqual = pos 2
policy_word ExactMatch = pos 3
policy_word LeftToRight = pos 4

abbrev pub kind_words : JoinKind → List ℤ
kind_words (kind.Follows min max) = pos 0 ∷ min ∷ max ∷ []
kind_words (kind.FollowsTok min max) = pos 1 ∷ min ∷ max ∷ []
kind_words kind.Overlaps = pos 2 ∷ pos 0 ∷ pos 0 ∷ []
kind_words kind.Contains = pos 3 ∷ pos 0 ∷ pos 0 ∷ []
kind_words (kind.FollowsBack min max) = pos 4 ∷ min ∷ max ∷ []
kind_words (kind.FollowsTokBack min max) = pos 5 ∷ min ∷ max ∷ []
kind_words kind.ContainsBack = pos 6 ∷ pos 0 ∷ pos 0 ∷ []

abbrev pub local_words : Local → List ℤ
local_words (sought.TokenRegex low high pattern) = pos low ∷ pos high ∷ pos pattern ∷ []
local_words (sought.Dict d) = pos d ∷ pos 0 ∷ []

abbrev pub agg_words : Agg → List ℤ
agg_words (Key number) = pos 0 ∷ pos number ∷ []
agg_words Count = pos 1 ∷ pos 0 ∷ []
agg_words (CountOf column) = pos 2 ∷ pos column ∷ []
agg_words (Sum column) = pos 3 ∷ pos column ∷ []
agg_words (Min column) = pos 4 ∷ pos column ∷ []
agg_words (Max column) = pos 5 ∷ pos column ∷ []

abbrev pub flag_word : Bool → ℤ
flag_word holds = if holds then pos 1 else pos 0

-- the node's number in this table, and its own numbers
abbrev pub head_words : Node → List ℤ
head_words Doc = pos 0 ∷ []
head_words (Regex input column pattern groups) = pos 1 ∷ pos input ∷ pos column ∷ pos pattern ∷ []
head_words (TokenRegex input column low high pattern groups) = pos 2 ∷ pos input ∷ pos column ∷ pos low ∷ pos high ∷ pos pattern ∷ []
head_words (Dict input column dicts) = pos 3 ∷ pos input ∷ pos column ∷ []
head_words (DictPart input number) = pos 4 ∷ pos input ∷ pos number ∷ []
head_words (Blocks input column low high from upto tokens) =
    pos 5 ∷ pos input ∷ pos column ∷ pos low ∷ pos high ∷ from ∷ upto ∷ flag_word tokens ∷ []
head_words (Select input conds) = pos 6 ∷ pos input ∷ []
head_words (Project input items) = pos 7 ∷ pos input ∷ []
head_words (Cross left right conditional) = pos 8 ∷ pos left ∷ pos right ∷ flag_word conditional ∷ []
head_words (SpanJoin left right join lc rc conditional) =
    pos 9 ∷ pos left ∷ pos right ∷ pos lc ∷ pos rc ∷ flag_word conditional ∷ []
head_words (Restricted outer source join lc local_part) = pos 10 ∷ pos outer ∷ pos source ∷ pos lc ∷ []
head_words (Union left right) = pos 11 ∷ pos left ∷ pos right ∷ []
head_words (Minus left right) = pos 12 ∷ pos left ∷ pos right ∷ []
head_words (Consolidate input policy target) = pos 13 ∷ pos input ∷ policy_word policy ∷ []
head_words (Group input keys aggs) = pos 14 ∷ pos input ∷ pos (length keys) ∷ []
head_words (OrderLimit input keys None) = pos 15 ∷ pos input ∷ pos 0 ∷ pos 0 ∷ []
head_words (OrderLimit input keys (Some n)) = pos 15 ∷ pos input ∷ pos 1 ∷ pos n ∷ []

-- what it has a list of, and how it joins
abbrev pub tail_words : Node → List ℤ
tail_words (Regex input column pattern groups) = map pos groups
tail_words (TokenRegex input column low high pattern groups) = map pos groups
tail_words (Dict input column dicts) = map pos dicts
tail_words (Select input conds) = list_words conds
tail_words (Project input items) = list_words items
tail_words (SpanJoin left right join lc rc conditional) = kind_words join
tail_words (Restricted outer source join lc local_part) = kind_words join ++ local_words local_part
tail_words (Consolidate input policy target) = term_words target
tail_words (Group input keys aggs) = map pos keys ++ flat_map agg_words aggs
tail_words (OrderLimit input keys limit) = map pos keys
tail_words node = []

abbrev pub node_words : Node → List ℤ
node_words node = head_words node ++ tail_words node
