-- what a reader must believe
pub mod Place
pub mod Theorems
pub mod Beginning
pub mod Codes
-- the laws that lead there, and those that the code cites
pub mod Ends
pub mod First
pub mod Order
pub mod Back
pub mod Split
