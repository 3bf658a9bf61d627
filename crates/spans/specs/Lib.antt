-- what a reader must believe: which characters a literal and a block comment span, of the text alone
pub mod Strings
pub mod Comments
-- and how deep block comments go
pub mod Depths
pub mod DepthExamples
