-- reading
pub mod Readers
pub mod Reading
pub mod ClauseViews
-- limits
pub mod Nesting
-- programs with trees and programs without
pub mod Faults
pub mod Runs
pub mod Keeping
