-- what a reader must believe
pub mod Lists
pub mod Parts
pub mod Examples
-- THE THEOREM: the parts are the whole
pub mod Whole
-- the place in the line for people
pub mod People
-- every part fits
pub mod Sizes
pub mod Held
-- the laws that lead there, and those that the code cites
pub mod Laws
