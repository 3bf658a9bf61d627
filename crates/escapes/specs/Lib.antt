-- what a reader must believe
pub mod Escapes
pub mod Characters
pub mod Answers
pub mod Theorems
pub mod Codes
pub mod Examples
-- the laws that lead there, and those that the code cites
pub mod Passes
pub mod Laws
pub mod Formed
pub mod Spelled
pub mod Laid
