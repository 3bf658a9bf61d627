-- what a caller has: which codes come out, what a refusal leaves, 14 and 15, what is repeated and taken up, the end, and the books
pub mod Codes
pub mod Refusals
pub mod Exactly
pub mod Repeating
pub mod Ends
pub mod TakingUp
pub mod Books
