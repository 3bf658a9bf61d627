-- what a reader must believe
pub mod Bytes
pub mod Digits
pub mod Names
pub mod Lay
pub mod Lines
-- the laws that lead there, and those that the code cites
pub mod DigitLaws
pub mod Stores
pub mod NameLaws
pub mod Pieces
