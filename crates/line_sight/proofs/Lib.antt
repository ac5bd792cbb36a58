-- what stands where, as bytes are looked at
pub mod Looking
-- what is shared among threads, and sent to them
pub mod Crosses
