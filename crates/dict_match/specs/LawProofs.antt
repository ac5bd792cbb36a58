-- What the laws of `Laws.antt` rest on: a file of `specs` names nothing of `proofs`, so their proofs stand here.
-- the matches in a source lie in it
pub mod InsideLemmas
-- the function is the one list that has exactly the matches
pub mod MatchLaws
