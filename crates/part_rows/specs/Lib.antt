pub mod Shown
pub mod Looks
pub mod Puts
pub mod Dead
