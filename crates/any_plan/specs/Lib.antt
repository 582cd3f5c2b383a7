pub mod Chosen
pub mod Laws
