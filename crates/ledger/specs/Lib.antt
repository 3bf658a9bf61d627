-- what a reader must believe: demand 3, and what every run keeps
pub mod Spent
pub mod Books
pub mod Order
pub mod Payloads
pub mod Resumed
pub mod Written
pub mod Examples
-- the laws that lead there
pub mod Answered
pub mod Untold
pub mod Small
pub mod Levels
pub mod Codes
pub mod Runs
