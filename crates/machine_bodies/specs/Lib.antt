pub mod Laws
pub mod Stands
pub mod Going
