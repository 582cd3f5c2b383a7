pub mod Meaning
pub mod Consists
pub mod Nodes
pub mod Answered
