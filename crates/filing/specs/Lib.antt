-- what a reader must believe
pub mod Filed
-- the laws that the code cites
pub mod Laws
