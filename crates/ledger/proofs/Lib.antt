-- what rests on the definitions of specs/, module by module
pub mod Spent
pub mod Books
pub mod Order
pub mod Payloads
pub mod Written
pub mod RunThenWrite
-- the laws that lead there
pub mod Answered
pub mod Codes
pub mod Runs
