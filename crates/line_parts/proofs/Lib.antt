-- what is shared among threads, and sent to them
pub mod Crosses
