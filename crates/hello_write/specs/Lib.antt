pub mod Widths
pub mod Layout
pub mod Writing
