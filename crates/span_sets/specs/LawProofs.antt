-- What the laws of `Laws.antt` rest on: a file of `specs` names nothing of `proofs`, so their proofs stand here.
-- sorted candidates, what the policies ask of them, and the rows that stay
pub mod Sweeps
pub mod Policies
pub mod Keeping
pub mod CandidateLists
-- rows in row order, with their targets
pub mod RowLaws
-- distinct spans, and runs of neighbours
pub mod SpanLists
pub mod BlockLists
pub mod BlockLaws
-- the rules as tests, and consolidation as a function
pub mod RuleTests
pub mod KeptLists
pub mod Stable
pub mod ConsolidationLaws
-- blocks as a function
pub mod BlockTests
pub mod BlockEnds
