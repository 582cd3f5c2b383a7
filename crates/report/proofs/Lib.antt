pub mod Bits
pub mod Masks
pub mod SetBits
pub mod Steps
pub mod Values
pub mod Table
pub mod Lossless
pub mod Written
