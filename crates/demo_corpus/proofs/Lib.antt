mod Sinks
mod Corpora
mod Objects
mod Fillings
mod Lengths
mod NamedTotals
mod Tallies
