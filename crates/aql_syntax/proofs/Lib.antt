pub mod Writing
pub mod PrintingViews
pub mod Standing
pub mod Prints
pub mod PrintLaws
pub mod Shaping
