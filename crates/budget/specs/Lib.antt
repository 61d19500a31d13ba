pub mod Paths
pub mod Pass
pub mod Laws
