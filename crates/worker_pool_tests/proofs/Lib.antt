-- a plan that shows one node
pub mod Planning
