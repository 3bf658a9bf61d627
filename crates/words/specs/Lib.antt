-- laws that the code cites; the definitions stand in `reading`
pub mod Letters
