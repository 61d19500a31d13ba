pub mod Typing
pub mod Faults
pub mod Verified
pub mod Pass
pub mod Laws
