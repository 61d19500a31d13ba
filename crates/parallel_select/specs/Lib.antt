pub mod Gained
pub mod Parts
pub mod Workers
pub mod Faults
pub mod Laws
pub mod Joined
