pub mod Leaves
pub mod Written
pub mod Patterns
pub mod Spelled
pub mod Writable
