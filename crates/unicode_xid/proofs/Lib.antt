pub mod Ascii
pub mod Halving
