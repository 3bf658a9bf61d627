-- what a reader must believe
pub mod Layout
pub mod Ltk
pub mod Reasons
pub mod Codes
pub mod Faithful
pub mod Examples
-- the laws that lead there, and those that the code cites
pub mod Sources
pub mod Laws
