pub mod Expressions
pub mod Writable
