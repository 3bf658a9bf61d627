-- laws that the code cites
pub mod Counts
