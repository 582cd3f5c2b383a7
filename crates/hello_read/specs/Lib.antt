pub mod Hellos
pub mod Layout
pub mod Refusals
pub mod Tlvs
pub mod Reading
pub mod Frames
