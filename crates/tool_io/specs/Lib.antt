pub mod Fault
pub mod Wrapped
pub mod Input
pub mod Terms
pub mod Lines
