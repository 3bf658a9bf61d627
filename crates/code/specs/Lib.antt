pub mod Code
pub mod Laws
pub mod Near
-- for speed alone
pub mod Stops
