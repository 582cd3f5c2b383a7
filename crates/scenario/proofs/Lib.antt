mod FirstItems
pub mod Numerals
