-- what each contract says in numbers, what does not stand in specs/; and of expansions the law that leads there
pub mod Promised
pub mod Inner
pub mod Same
