pub mod Looks
pub mod Deletions
pub mod Stored
pub mod Sets
