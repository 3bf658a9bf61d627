-- the laws of calls and runs, up to the books (Ledger)
pub mod Ledger
pub mod Calls
pub mod CallLaw
pub mod Blanks
pub mod AnyCall
pub mod Story
pub mod Sums
pub mod Steps
pub mod Inside
