-- What the proofs share.
pub mod First
pub mod Laws
