-- what a reader must believe
pub mod Shapes
pub mod Until
pub mod Readers
pub mod IfNext
pub mod Seek
pub mod Walk
pub mod Depth
pub mod Examples
-- the laws that lead there, and those that the code cites
pub mod Steps
pub mod Far
pub mod Passes
pub mod Runs
pub mod Turns
pub mod Deepens
pub mod Near
