pub mod Line
pub mod Truth
pub mod Rules
pub mod Rows
pub mod Bytes
pub mod Agreement
pub mod Numbers
pub mod Theorems
