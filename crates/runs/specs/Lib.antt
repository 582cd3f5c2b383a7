pub mod Calls
pub mod Histories
pub mod Right
pub mod Promise
pub mod WorkedCases
