-- why a call failed
pub mod Causes
-- what reads of named files give, and what a flush does
pub mod Bytes
-- what contracts see of the objects in memory
pub mod InMemory
-- the bytes that a map of files holds
pub mod Held
-- the room of a sink in memory
pub mod Room
-- what contracts see of an adapter over an object of std
pub mod Counting
-- what contracts see of a file that is read at places
pub mod Places
