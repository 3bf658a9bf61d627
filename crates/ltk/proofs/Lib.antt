-- What the proofs share.
pub mod Numbers
pub mod Checking
pub mod Judging
pub mod Laying
pub mod Reading
pub mod Writing
