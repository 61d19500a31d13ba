pub mod Line
pub mod Assembled
pub mod Stands
pub mod Pool
pub mod Assembling
pub mod Labels
pub mod Laws
