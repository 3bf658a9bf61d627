-- what a reader must believe: the three places, and texts with both answers
pub mod Places
pub mod Examples
-- THE THEOREMS
pub mod Theorems
-- the laws that lead there
pub mod Covers
pub mod Calls
