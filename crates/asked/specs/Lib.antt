-- what a reader must believe
pub mod Answers
pub mod Texts
pub mod Expansions
-- the theorems
pub mod Told
-- the laws that the code cites
pub mod Calls
