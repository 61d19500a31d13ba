pub mod Stops
pub mod Host
pub mod Once
pub mod Begun
pub mod Going
