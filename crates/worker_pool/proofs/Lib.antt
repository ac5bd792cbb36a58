-- pages: what is known of nodes on one document
pub mod Paging
-- boards that are filled document by document
pub mod Boarding
-- what is known of outputs, and the answers of an evaluation
pub mod Answering
-- what workers share, and what is sent to them
pub mod Crosses
