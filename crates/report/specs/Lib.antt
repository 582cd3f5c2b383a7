pub mod Masks
pub mod Reports
pub mod Refusals
pub mod Layout
pub mod Reading
pub mod Writing
pub mod Lossless
pub mod Crossed
