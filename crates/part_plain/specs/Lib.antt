pub mod Served
pub mod Places
