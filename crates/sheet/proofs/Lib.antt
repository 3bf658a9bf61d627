pub mod Telling
-- the sheet's books
pub mod Theorems
pub mod Within
