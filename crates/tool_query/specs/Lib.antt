pub mod Query
pub mod Code
pub mod Answers
pub mod Run
pub mod Laws
