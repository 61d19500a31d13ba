pub mod SeenLemmas
pub mod LeadLemmas
pub mod SweepLemmas
pub mod VisitLemmas
pub mod ObjectLemmas
pub mod SetLemmas
pub mod WalkLemmas
pub mod SendLemmas
