-- what a reader must believe, in the order of 01
pub mod Shapes
pub mod Answers
pub mod Gaps
pub mod Symbols
pub mod Quotes
pub mod Words
pub mod Regex
pub mod Attribute
pub mod Next
pub mod Run
pub mod Blank
pub mod Measures
-- the laws that lead there, and those that the code cites
pub mod Passes
pub mod Calls
pub mod CallLaw
pub mod Blanks
pub mod Sums
pub mod Steps
pub mod Reached
pub mod Sights
pub mod Own
