-- what a reader must believe
pub mod Chars
pub mod Utf8
pub mod Encode
-- the laws that lead there, and those that the code cites
pub mod Picks
pub mod Forms
pub mod Laws
pub mod Widths
