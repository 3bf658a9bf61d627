-- what a reader must believe: 01's own definition, and the map
pub mod Rust
pub mod Map
pub mod Unknowns
-- THE THEOREMS
pub mod Theorems
pub mod Exactly
pub mod Examples
-- the laws that lead there
pub mod Shared
pub mod Calls
pub mod Runs
pub mod Stops
pub mod Starts
