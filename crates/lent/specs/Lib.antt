-- what a reader must believe
pub mod Copies
