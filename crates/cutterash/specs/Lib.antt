pub mod Held
pub mod Reply
pub mod Calls
pub mod Tables
