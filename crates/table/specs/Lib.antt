-- what a reader must believe
pub mod Table
pub mod Examples
pub mod Shown
-- the laws that the code cites
pub mod Laws
