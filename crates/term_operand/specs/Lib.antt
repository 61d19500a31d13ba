pub mod Operand
pub mod Order
pub mod Value
pub mod View
