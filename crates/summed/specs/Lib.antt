-- what a reader must believe
pub mod Summed
-- laws that the code cites
pub mod Laws
