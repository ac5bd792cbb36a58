-- boards as they are kept
pub mod Keeping
-- events that are taken in turn
pub mod Replaying
