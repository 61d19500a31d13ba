pub mod Clauses
pub mod Labels
pub mod Writable
