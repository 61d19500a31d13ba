pub mod PositionLemmas
pub mod GrowthLemmas
pub mod StepLemmas
pub mod GoesLemmas
pub mod TurnLemmas
pub mod CountLemmas
pub mod OnceLemmas
pub mod StayedLemmas
