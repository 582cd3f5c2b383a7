pub mod Neighbours
pub mod Walk
pub mod Assemble
pub mod Answer
pub mod LateNode
pub mod Theorems
