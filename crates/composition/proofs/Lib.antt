pub mod Steps
pub mod Exact
pub mod Standing
pub mod Sending
pub mod Gathering
