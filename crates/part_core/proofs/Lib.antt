mod WorkedRows
pub mod KeyLemmas
pub mod RowLemmas
pub mod VisitLemmas
pub mod StateLemmas
pub mod StepLemmas
pub mod HistoryLemmas
pub mod CoverLemmas
pub mod StayLemmas
pub mod KeyedLemmas
pub mod AfterLemmas
pub mod ChosenLemmas
pub mod LiveLemmas
pub mod LawLemmas
