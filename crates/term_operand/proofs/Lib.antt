pub mod OrderLemmas
mod TextLemmas
pub mod ViewLemmas
pub mod BorrowLemmas
