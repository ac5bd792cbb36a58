-- lists in which each value stands once
pub mod Once
-- lists
pub mod Seeing
-- clauses
pub mod Answering
-- the entries of dictionaries
pub mod FirstEntries
-- the dictionaries
pub mod Using
-- what is known of texts
pub mod Telling
-- what is listed
pub mod Listing
-- what is mentioned in trees with lists
pub mod MentionsViews
-- rows of the definitions
mod Examples
