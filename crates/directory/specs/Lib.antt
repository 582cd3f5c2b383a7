pub mod Numbering
pub mod Meaning
pub mod Asked
pub mod Writing
pub mod Keys
pub mod Lookups
