-- what a reader must believe
pub mod Answers
pub mod Tallies
pub mod Examples
-- the laws that the code cites
pub mod Laws
-- what the verdict means
pub mod Verdict
