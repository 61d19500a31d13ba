pub mod FittingLemmas
pub mod ShiftLemmas
pub mod ListLemmas
pub mod GivenLemmas
pub mod BitLemmas
pub mod MapLemmas
