pub mod Names
pub mod Numbers
pub mod PrimitiveCode
pub mod Gives
