-- Words of public clauses
-- boards, and what is wanted and ready by what is published
pub mod Boards
pub mod Wanted
-- events, when they are legal, and what they do
pub mod Events
pub mod Histories
-- what holds of every board that legal events reach
pub mod Promises
-- laws of them for the crates above
pub mod WantedLaws
pub mod StepLaws
pub mod HistoryLaws
pub mod BoardLaws
-- Words of private clauses
-- what is kept of an item
pub mod Spots
