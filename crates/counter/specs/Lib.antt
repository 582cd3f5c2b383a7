pub mod Crc
pub mod Parts
