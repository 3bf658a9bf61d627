-- what a reader must believe: the contracts of the calls, and what a caller has after any number of them
pub mod PublicCalls
pub mod Single
pub mod Cursors
pub mod Readings
pub mod TakingUp
pub mod Spans
pub mod Bare
pub mod Strings
pub mod Depths
pub mod Ends
pub mod Refusals
pub mod Exactly
pub mod Lists
pub mod Codes
pub mod Reads
pub mod Numbers
pub mod Examples
-- the laws that lead there
pub mod Boundaries
pub mod Repeated
