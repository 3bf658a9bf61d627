-- What the proofs share.
pub mod Copying
pub mod Listed
