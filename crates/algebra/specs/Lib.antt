-- Words of public clauses
-- which nodes a node reads
pub mod Inputs
-- what a node gives of the rows of its inputs
pub mod Operators
-- what nodes have by what the nodes before them have: their rows, and their shapes
pub mod Folds
pub mod Values
pub mod Shapes
-- nodes that make a plan, and plans
pub mod Nodes
pub mod Plans
-- plans that grow, and what a node of the new plan stands for
pub mod Growth
-- which nodes are needed on a document
pub mod Needed
-- items, and what is known of the rows of nodes and of their inputs
pub mod Items
-- which new nodes stand for old ones
pub mod Mapping
-- laws of them for the crates above
pub mod FoldLaws
pub mod NodeLaws
pub mod OperatorLaws
pub mod FoundWidths
pub mod WidthLaws
pub mod GrowthLaws
pub mod KindLaws
pub mod MappingLaws
pub mod OutputLaws
-- conditions that joins stand for, and the laws that rewrites use
pub mod Predicates
pub mod FilterLaws
pub mod SelectionLaws
pub mod ExtractionLaws
pub mod DictLaws
pub mod JoiningLaws
pub mod ItemLaws
