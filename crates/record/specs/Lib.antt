-- what a reader must believe
pub mod Numbers
pub mod Records
pub mod Checks
pub mod Rust
pub mod Readings
-- the laws that lead there, and those that the code cites
pub mod Allowed
pub mod Codes
pub mod Stores
