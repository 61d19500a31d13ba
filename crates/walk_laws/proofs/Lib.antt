mod WorkedTour
pub mod OrderLemmas
pub mod LiveLemmas
pub mod StateLemmas
pub mod TurnLemmas
pub mod FindLemmas
pub mod TourLemmas
pub mod KeyLemmas
