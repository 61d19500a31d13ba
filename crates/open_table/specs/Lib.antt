pub mod Parts
pub mod Calls
pub mod Queries
pub mod Shows
pub mod Facts
pub mod Walks
