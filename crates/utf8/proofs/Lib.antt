-- the laws that lead to what a reader must believe, and RoundTrip, which says it
pub mod RoundTrip
pub mod Forms
pub mod Laws
pub mod Widths
