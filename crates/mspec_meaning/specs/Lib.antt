pub mod Environment
pub mod Made
pub mod Called
pub mod Decided
pub mod Meaning
pub mod Value
pub mod Applied
pub mod Laws
