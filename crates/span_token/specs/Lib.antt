-- ---- words of public clauses
-- spans
pub mod Extents
pub mod SpanOrder
pub mod Relations
pub mod Contexts
-- documents
pub mod Limits
pub mod Documents
pub mod Words
pub mod Tokens
pub mod SourceTokens
-- refusals
pub mod Refusals
-- ---- words of private clauses
pub mod Classes
pub mod Leads
pub mod Points
pub mod Scans
pub mod Sweeps
pub mod TextSweeps
pub mod Places
pub mod Layout
pub mod Offsets
pub mod SourceLayout
-- ---- laws for the crates above
-- extents, their order, and lists in a rising order
pub mod ExtentLaws
pub mod RisingLists
pub mod SpanOrderLaws
-- the tokens of a text
pub mod TokenLaws
