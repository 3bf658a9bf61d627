-- what a reader must believe; the theorems about it stand in proofs/Theorems.antt
pub mod Apart
pub mod Adds
pub mod Sheet
pub mod Totals
pub mod Codes
pub mod Told
-- laws that lead there, and those that the code cites
pub mod ApartLaws
pub mod Laws
pub mod Reads
pub mod Parts
pub mod Calls
pub mod Takes
pub mod Entries
