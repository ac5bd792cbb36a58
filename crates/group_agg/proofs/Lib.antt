-- the keys of the rows, each once, and the tallies of their groups
pub mod GroupKeys
-- rows of the definitions, computed
mod Examples
