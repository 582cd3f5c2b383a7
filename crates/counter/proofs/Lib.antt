pub mod Reflection
pub mod Division
pub mod Register
pub mod Entries
pub mod Detection
