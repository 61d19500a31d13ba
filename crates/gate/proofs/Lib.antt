pub mod HistoryLemmas
pub mod ClosedLemmas
mod SeatLemmas
mod StepLemmas
