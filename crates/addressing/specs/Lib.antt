pub mod Devices
pub mod Addressing
pub mod OwnAddresses
