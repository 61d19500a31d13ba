pub mod Keys
pub mod Stack
pub mod Slots
pub mod Flow
pub mod Cells
