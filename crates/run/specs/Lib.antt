-- what a reader must believe
pub mod Checked
pub mod Payload
pub mod Numbers
pub mod TakenUp
-- the laws that lead there, and those that the code cites
pub mod Pending
pub mod Room
pub mod Steps
