-- what a reader must believe
pub mod Hex
pub mod Lines
pub mod Examples
-- the laws that the code cites
pub mod Laws
