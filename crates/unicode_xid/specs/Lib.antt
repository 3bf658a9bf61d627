-- what a reader must believe
pub mod Whitespace
pub mod Tables
pub mod Ranges
pub mod Identifier
pub mod Order
-- the laws that lead there, and those that the code cites
pub mod Laws
pub mod Pieces
pub mod Common
