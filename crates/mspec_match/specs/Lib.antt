pub mod Match
pub mod Slots
pub mod Failure
pub mod Laws
