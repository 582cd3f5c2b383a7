mod Positions
mod Places
pub mod OwnAddresses
