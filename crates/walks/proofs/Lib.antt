mod KeyLemmas
pub mod OneThreadLemmas
mod VisitLemmas
mod GoingLemmas
mod PieceLemmas
mod OwnLemmas
mod WholeLemmas
mod CountingLemmas
pub mod OrderLemmas
pub mod SightLemmas
pub mod MadeLemmas
pub mod LookLemmas
pub mod VisitLooks
pub mod NamedLemmas
pub mod PlainLemmas
pub mod GoneLemmas
pub mod AloneLemmas
pub mod WhollyLemmas
pub mod CutLemmas
pub mod DoneLemmas
pub mod NamedDone
pub mod AnewLemmas
pub mod DeletedLemmas
mod PieceCounts
mod WorkedRows
