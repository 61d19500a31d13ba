pub mod Tours
pub mod Laws
pub mod Answered
