-- what a reader must believe: the numbers of each enum that a public function answers, and what each contract says in them (some of it in proofs/)
pub mod Values
pub mod Promised
pub mod Inner
pub mod Leaves
-- the laws that lead there: no two answers have the same numbers (one of them in proofs/)
pub mod Same
