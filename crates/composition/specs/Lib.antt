pub mod Meaning
pub mod Faults
pub mod Exact
pub mod Standing
pub mod Sending
pub mod Gathering
