-- What the laws of `SamenessLaws.antt` rest on: a file of `specs` names nothing of `proofs`, so their proofs stand here.
pub mod SameTerms
