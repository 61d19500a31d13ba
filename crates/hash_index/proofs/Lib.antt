pub mod Distances
pub mod Cells
pub mod Searches
pub mod Writes
pub mod Closing
pub mod Mixing
