-- nodes, outputs and rows, as plans want them
pub mod Planning
-- a union with a limit without a number behind it
pub mod LongerUnions
