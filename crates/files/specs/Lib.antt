-- what a reader must believe
pub mod Files
-- THE THEOREM: the parts are the whole
pub mod Whole
-- the laws that the code cites
pub mod Laws
