-- Came: what of a buffer is said
pub mod Came
-- Page: what a text and a sheet are told with
pub mod Page
