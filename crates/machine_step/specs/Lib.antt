pub mod Fits
pub mod Flow
pub mod Way
pub mod Memory
