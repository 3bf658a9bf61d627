-- what a reader must believe
pub mod Recorded
-- the theorem, and the laws that the code cites
pub mod Same
