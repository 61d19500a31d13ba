pub mod Kept
pub mod Numbers
