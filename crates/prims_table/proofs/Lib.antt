pub mod NameLemmas
pub mod NumberLemmas
mod TextEq
