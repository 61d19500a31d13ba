pub mod Options
pub mod Members
pub mod Asking
pub mod Answers
pub mod Scan
