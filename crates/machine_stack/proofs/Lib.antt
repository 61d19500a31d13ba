pub mod ConstantLemmas
pub mod MapLemmas
pub mod StackLemmas
pub mod MakeLemmas
pub mod CellLemmas
