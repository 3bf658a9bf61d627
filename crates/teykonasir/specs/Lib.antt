-- what a reader must believe
pub mod State
pub mod Calls
-- laws: nothing is lost between two calls
pub mod StateLaws
