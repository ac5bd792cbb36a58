-- What the laws of `Laws.antt` rest on: a file of `specs` names nothing of `proofs`, so their proofs stand here.
-- the rows of a pattern's matches, one after another
pub mod RowLaws
-- the rows of token runs as a function, and that no other list has them
pub mod TokenRunLaws
pub mod RunRowsUnique
