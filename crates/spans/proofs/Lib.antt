-- which characters a literal spans
pub mod Strings
