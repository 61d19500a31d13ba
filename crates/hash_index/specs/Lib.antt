pub mod Cells
pub mod Index
pub mod Kept
