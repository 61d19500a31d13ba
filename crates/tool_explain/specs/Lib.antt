pub mod Table
pub mod Listing
pub mod Plan
pub mod Passing
pub mod Explain
pub mod Laws
