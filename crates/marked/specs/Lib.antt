-- examples by computation: no other crate stands on them, so a new row proves nothing else again
pub mod Marked
pub mod Checks
pub mod Layouts
