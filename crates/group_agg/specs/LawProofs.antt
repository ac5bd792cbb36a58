-- What the laws of `Laws.antt` rest on: a file of `specs` names nothing of `proofs`, so their proofs stand here.
-- what an aggregate that is added up row by row gives
pub mod Aggregates
-- the answer of a grouping is one bag
pub mod Unique
-- the first elements of a list in order
pub mod FirstOf
-- rows with their key values
pub mod Pairs
-- the answer of a limit is one bag
pub mod LimitLaws
-- the answers to rows in another order are the same ones
pub mod SameInput
-- groups and first rows as functions
pub mod Functions
