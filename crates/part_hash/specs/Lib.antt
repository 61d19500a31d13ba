pub mod Mixed
pub mod Places
pub mod Slots
pub mod Standing
pub mod Swept
pub mod Classes
pub mod Served
