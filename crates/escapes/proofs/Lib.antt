pub mod Laws
pub mod Place
pub mod Codes
